use Rattle.std.proofs.Common.{◌≡◌, ◌++◌, map}
use Rattle.ge_model_report.specs.JobLines.{running_line}
use Rattle.ge_listing.proofs.job_lines.put_running.Given as goal

abbrev pub invariant-loop-task : goal.invariant-loop-task
invariant-loop-task l = l.lines ++ map (running_line l.number l.job) l.task-iterator ≡ l.fn.lines ++ map (running_line l.number l.job) l.job.running
