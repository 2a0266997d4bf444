-- Jobs, what they ask for, running tasks with their grants, advance reservations: qsub, qrsub.
pub use Rattle.ge_rows.specs.declared.jobs.Job.{Job}
pub use Rattle.ge_rows.specs.declared.jobs.Request.{Request}
pub use Rattle.ge_rows.specs.declared.jobs.PeRequest.{PeRequest}
pub use Rattle.ge_rows.specs.declared.jobs.Running.{Running}
pub use Rattle.ge_rows.specs.declared.jobs.Grant.{Grant}
pub use Rattle.ge_rows.specs.declared.jobs.Advance.{Advance}
