use Rattle.std.proofs.Common.{◌≡◌, fold}
use Rattle.ge_model_jobs.specs.Ending.{delete_from}
use Rattle.ge_applying.proofs.deletions.delete_all.Given as goal

abbrev pub invariant-loop-number : goal.invariant-loop-number
invariant-loop-number l = fold (delete_from l.moment l.force) l.c l.number-iterator ≡ fold (delete_from l.moment l.force) l.fn.c l.named
