pub mod Samples
mod Rows
mod UsageRows
pub mod Keys
pub mod BorneMarks
pub mod SameKind
pub mod Places
pub mod Orderly
pub mod HeldTasks
mod BookedRows
pub mod JoinedPicks
pub mod WalkedSerials
pub mod SetHolds
