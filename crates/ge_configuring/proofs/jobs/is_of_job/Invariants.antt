use Rattle.std.proofs.Common.{◌≡◌}
use Rattle.std.specs.List.{list_any}
use Rattle.ge_collections.specs.Keyed.{text_eq}
use Rattle.ge_configuring.proofs.jobs.is_of_job.Given as goal

abbrev pub invariant-loop-row : goal.invariant-loop-row
invariant-loop-row l = list_any (λ job. text_eq l.name job.1.project) l.row-iterator ≡ list_any (λ job. text_eq l.name job.1.project) l.c.jobs
