-- Values, their kinds, relational operators, and the rows of the table of complexes: complex.
pub use Rattle.ge_rows.specs.declared.values.Value.{Value}
pub use Rattle.ge_rows.specs.declared.values.Value.TheVariants.{Amount, Flag, Word}
pub use Rattle.ge_rows.specs.declared.values.Kind.{Kind}
pub use Rattle.ge_rows.specs.declared.values.Kind.TheVariants.{Int, Time, Memory, Double, Str}
pub use Rattle.ge_rows.specs.declared.values.Kind.TheVariants.{CStr, ReStr, Host}
pub use Rattle.ge_rows.specs.declared.values.Relop.{Relop}
pub use Rattle.ge_rows.specs.declared.values.Relop.TheVariants.{Eq, Ne, Lt, Le, Gt, Ge}
pub use Rattle.ge_rows.specs.declared.values.Requestable.{Requestable}
pub use Rattle.ge_rows.specs.declared.values.Consumable.{Consumable}
pub use Rattle.ge_rows.specs.declared.values.ComplexDef.{ComplexDef}
pub use Rattle.ge_model_rows.specs.Opening.{infinity, million}
