-- Requests as they come in, what becomes of them, and the replies.
pub use Rattle.ge_rows.specs.declared.events.Event.{Event}
pub use Rattle.ge_rows.specs.declared.events.Form.{Form}
pub use Rattle.ge_rows.specs.declared.events.Form.TheVariants.{Good, BadHeader, TooLong}
pub use Rattle.ge_rows.specs.declared.events.Reply.{Reply}
pub use Rattle.ge_rows.specs.declared.planned.Planned.{Planned}
