use Rattle.std.proofs.Common.{◌≡◌, take}
use Rattle.std.specs.Prelude.{sum_by}
use Rattle.ge_deleting.specs.Counts.{count_of_part, shown}
use Rattle.ge_deleting.proofs.counting.count_all.Given as goal

abbrev pub invariant-loop-named_job : goal.invariant-loop-named_job
invariant-loop-named_job l = l.sum ≡ sum_by (count_of_part l.part) (shown (take l.named_job-index l.named))
