-- The accounting line of a task that ended: accounting.
pub use Rattle.ge_rows.specs.declared.accounts.Line.{Line}
