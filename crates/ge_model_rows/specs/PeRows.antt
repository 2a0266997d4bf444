-- Parallel environments, their allocation rules, and how many slots a range counts for: sge_pe.
pub use Rattle.ge_rows.specs.declared.queues.PeRow.{PeRow}
pub use Rattle.ge_rows.specs.declared.queues.Allocation.{Allocation}
pub use Rattle.ge_rows.specs.declared.queues.Allocation.TheVariants.{Fixed, PeSlots, FillUp}
pub use Rattle.ge_rows.specs.declared.queues.Allocation.TheVariants.{RoundRobin}
pub use Rattle.ge_rows.specs.declared.queues.UrgencySlots.{UrgencySlots}
pub use Rattle.ge_rows.specs.declared.queues.UrgencySlots.TheVariants.{Min, Max, Avg}
