-- Limits, what tasks take of them, starts, reservations, and the priorities of jobs.
pub use Rattle.ge_rows.specs.declared.scheduling.LimitId.{LimitId}
pub use Rattle.ge_rows.specs.declared.scheduling.LimitId.TheVariants.{Instance, Host, Global, Pe}
pub use Rattle.ge_rows.specs.declared.scheduling.LimitId.TheVariants.{Quota, Advance}
pub use Rattle.ge_rows.specs.declared.scheduling.QuotaKey.{QuotaKey}
pub use Rattle.ge_rows.specs.declared.scheduling.Demand.{Demand}
pub use Rattle.ge_rows.specs.declared.scheduling.Booking.{Booking}
pub use Rattle.ge_rows.specs.declared.scheduling.Start.{Start}
pub use Rattle.ge_rows.specs.declared.scheduling.Reservation.{Reservation}
pub use Rattle.ge_rows.specs.declared.scheduling.Prio.{Prio}
