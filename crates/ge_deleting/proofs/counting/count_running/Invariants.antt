use Rattle.std.proofs.Common.{◌≡◌, ◌+◌, length}
use Rattle.std.specs.Prelude.{filter}
use Rattle.ge_model_core.specs.Deleting.{task_runs_in}
use Rattle.ge_deleting.proofs.counting.count_running.Given as goal

abbrev pub invariant-loop-number : goal.invariant-loop-number
invariant-loop-number l = l.count + length (filter (task_runs_in l.tasks) l.number-iterator) ≡ length (filter (task_runs_in l.tasks) l.running)
