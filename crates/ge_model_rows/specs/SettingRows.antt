-- The settings of the scheduler: sched_conf.
pub use Rattle.ge_rows.specs.declared.settings.Sched.{Sched}
pub use Rattle.ge_rows.specs.declared.settings.SortMethod.{SortMethod}
pub use Rattle.ge_rows.specs.declared.settings.SortMethod.TheVariants.{Load, Seqno}
