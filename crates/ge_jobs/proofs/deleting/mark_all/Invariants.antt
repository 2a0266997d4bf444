use Rattle.std.proofs.Common.{◌≡◌, fold, drop}
use Rattle.ge_jobs.specs.Deletions.{mark_number}
use Rattle.ge_jobs.proofs.deleting.mark_all.Given as goal

abbrev pub invariant-loop-number : goal.invariant-loop-number
invariant-loop-number l = fold mark_number l.running (drop l.number-index l.numbers) ≡ fold mark_number l.fn.running l.numbers
