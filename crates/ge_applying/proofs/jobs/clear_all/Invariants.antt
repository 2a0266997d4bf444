use Rattle.std.proofs.Common.{◌≡◌, fold}
use Rattle.ge_model_jobs.specs.Ending.{clear_from}
use Rattle.ge_applying.proofs.jobs.clear_all.Given as goal

abbrev pub invariant-loop-number : goal.invariant-loop-number
invariant-loop-number l = fold clear_from l.jobs l.number-iterator ≡ fold clear_from l.fn.jobs l.named
