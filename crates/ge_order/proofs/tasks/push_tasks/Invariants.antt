use Rattle.std.proofs.Common.{◌≡◌, ◌++◌, map, take}
use Rattle.ge_order.specs.Ranked.{task_at}
use Rattle.ge_order.proofs.tasks.push_tasks.Given as goal

abbrev pub invariant-loop-task : goal.invariant-loop-task
invariant-loop-task l = l.order ≡ l.fn.order ++ map (task_at l.job) (take l.task-index l.tasks)
