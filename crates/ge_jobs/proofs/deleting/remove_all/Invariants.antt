use Rattle.std.proofs.Common.{◌≡◌, fold, drop}
use Rattle.ge_collections.specs.Keyed.{drop_number}
use Rattle.ge_jobs.proofs.deleting.remove_all.Given as goal

abbrev pub invariant-loop-number : goal.invariant-loop-number
invariant-loop-number l = fold drop_number l.running (drop l.number-index l.numbers) ≡ fold drop_number l.fn.running l.numbers
