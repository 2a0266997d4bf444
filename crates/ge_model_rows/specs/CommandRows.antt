-- Commands and their options: qsub, qalter, qdel, qhold, qrls, qmod, qconf, qstat, qacct.
pub use Rattle.ge_rows.specs.declared.commands.Command.{Command}
pub use Rattle.ge_rows.specs.declared.commands.Command.TheVariants.{Submit, Alter, Delete, Hold}
pub use Rattle.ge_rows.specs.declared.commands.Command.TheVariants.{Release, Clear, Show, Account}
pub use Rattle.ge_rows.specs.declared.commands.Command.TheVariants.{Add, Modify, Remove, Print}
pub use Rattle.ge_rows.specs.declared.commands.Command.TheVariants.{Load, End, Sched, Orders}
pub use Rattle.ge_rows.specs.declared.commands.Command.TheVariants.{JobOf, Stop, Book, Unbook}
pub use Rattle.ge_rows.specs.declared.commands.Command.TheVariants.{ShowBooked}
pub use Rattle.ge_rows.specs.declared.commands.Options.{Options}
pub use Rattle.ge_rows.specs.declared.commands.Listing.{Listing}
pub use Rattle.ge_rows.specs.declared.commands.Listing.TheVariants.{All, One, Queues, Prios}
pub use Rattle.ge_rows.specs.declared.commands.Query.{Query}
pub use Rattle.ge_rows.specs.declared.commands.Query.TheVariants.{Total, Owner, Job}
pub use Rattle.ge_rows.specs.Parts.{submission_of}
