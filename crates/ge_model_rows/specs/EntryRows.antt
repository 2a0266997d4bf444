-- What an accepted request changes, and the objects and targets that it names.
pub use Rattle.ge_rows.specs.declared.entries.Entry.{Entry}
pub use Rattle.ge_rows.specs.declared.entries.Change.{Change}
pub use Rattle.ge_rows.specs.declared.entries.Change.TheVariants.{Submit, Alter, Hold, Release}
pub use Rattle.ge_rows.specs.declared.entries.Change.TheVariants.{Delete, Clear, Put, Drop, Load}
pub use Rattle.ge_rows.specs.declared.entries.Change.TheVariants.{End, Run, Book, Unbook}
pub use Rattle.ge_rows.specs.declared.entries.Item.{Item}
pub use Rattle.ge_rows.specs.declared.entries.Item.TheVariants.{Complexes, Host, Group, Queue, Pe}
pub use Rattle.ge_rows.specs.declared.entries.Item.TheVariants.{Quota, Set, User, Project, Shares}
pub use Rattle.ge_rows.specs.declared.entries.Item.TheVariants.{Sched, Managers, Operators}
pub use Rattle.ge_rows.specs.declared.entries.ObjectKind.{ObjectKind}
pub use Rattle.ge_rows.specs.declared.entries.Key.{Key}
pub use Rattle.ge_rows.specs.declared.entries.Pick.{Pick}
pub use Rattle.ge_rows.specs.declared.entries.Patch.{Patch}
