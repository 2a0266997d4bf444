-- What a run decides of one task. The variant Start is named as the row in it: see ScheduleRows.
pub use Rattle.ge_rows.specs.declared.scheduling.Decision.{Decision}
pub use Rattle.ge_rows.specs.declared.scheduling.Decision.TheVariants.{Start, Reserve, Skip}
pub use Rattle.ge_rows.specs.Parts.{start_of}
