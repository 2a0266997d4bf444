use Rattle.std.proofs.Common.{◌≡◌, ◌++◌, map}
use Rattle.ge_model_jobs.specs.Soundness.{serial_of}
use Rattle.ge_world.proofs.entering.put_serials.Given as goal

-- those so far, and those of the tasks that are left
abbrev pub invariant-loop-task : goal.invariant-loop-task
invariant-loop-task l = l.serials ++ map serial_of l._task-iterator ≡ l.fn.serials ++ map serial_of l.job.running
