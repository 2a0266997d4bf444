pub mod Sorting
pub mod Lists
pub mod Walked
pub mod EligibleTasks
pub mod OrderOnce
pub mod OrderSorted
pub mod ShareTotals
pub mod ShareLines
pub mod ShareLeaves
pub mod ShareNodes
pub mod ShareDivided
pub mod ShareRuled
mod Samples
mod TicketRows
mod ShareRows
mod ShareRandom
mod PriorityRows
