use Rattle.std.proofs.Common.{◌≡◌, ◌==◌}
use Rattle.std.specs.List.{list_any}
use Rattle.ge_reporting.proofs.joining.has_free_job.Given as goal

abbrev pub invariant-loop-row : goal.invariant-loop-row
invariant-loop-row l = list_any (λ job. job.1.advance == 0) l.row-iterator ≡ list_any (λ job. job.1.advance == 0) l.jobs
