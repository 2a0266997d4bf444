use Rattle.std.proofs.Common.{◌≡◌, ◌++◌, filter, map}
use Rattle.ge_model_jobs.specs.Accounts.{line_of}
use Rattle.ge_model_jobs.specs.Ending.{forced, is_named}
use Rattle.ge_applying.proofs.deletions.push_named.Given as goal

abbrev pub invariant-loop-task : goal.invariant-loop-task
invariant-loop-task l =
    l.lines ++ map (λ task. line_of l.moment l.number l.job task.0 task.1 forced) (filter (is_named l.tasks) l.task-iterator)
    ≡ l.fn.lines ++ map (λ task. line_of l.moment l.number l.job task.0 task.1 forced) (filter (is_named l.tasks) l.job.running)
