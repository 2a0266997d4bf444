use Rattle.std.proofs.Common.{◌≡◌}
use Rattle.std.specs.List.{list_any}
use Rattle.ge_config.specs.Uses.{has_some}
use Rattle.ge_config.proofs.uses.jobs_name_some.Given as goal

abbrev pub invariant-loop-job : goal.invariant-loop-job
invariant-loop-job l = list_any (λ job. has_some l.names job.1.request.asked) l.job-iterator ≡ list_any (λ job. has_some l.names job.1.request.asked) l.jobs
