-- What is counted, and what the jobs that are left have, are all.
use Rattle.std.proofs.Common.{◌≡◌, ℕ, ◌+◌, List}
use Rattle.std.specs.Prelude.{sum_by}
use Rattle.ge_model_place.specs.Running.{running_in}
use Rattle.ge_attempts.specs.Counts.{count_at}
use Rattle.ge_attempts.proofs.counting.count_all.Given as goal

abbrev pub invariant-loop-number : goal.invariant-loop-number
invariant-loop-number l = (q : List ℕ) → count_at l.running q + sum_by (running_in q) l._number-iterator ≡ sum_by (running_in q) l.cluster.jobs
