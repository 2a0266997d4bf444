-- The first of the tasks that are left is the first.
use Rattle.std.proofs.Common.{◌≡◌}
use Rattle.std.specs.Prelude.{find}
use Rattle.ge_model_jobs.specs.Serials.{has_serial}
use Rattle.ge_jobs.proofs.finding.task_with.Given as goal

abbrev pub invariant-loop-number : goal.invariant-loop-number
invariant-loop-number l = find (has_serial l.serial) l.number-iterator ≡ find (has_serial l.serial) l.running
