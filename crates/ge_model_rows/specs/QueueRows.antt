-- Queues, and their attributes with overrides for hosts and groups: queue_conf.
pub use Rattle.ge_rows.specs.declared.queues.QueueRow.{QueueRow}
pub use Rattle.ge_rows.specs.declared.queues.Attr.{Attr}
