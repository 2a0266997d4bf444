mod Submissions
mod StartedTasks
mod Amounts
mod Requests
mod ADay
mod Reservations
mod Running
mod Quotas
mod Environments
mod Arrays
mod Priorities
mod Ends
mod Groups
mod WideNumbers
mod PerJob
mod AdvanceReservations
mod Refusals
mod ReadAgain
pub mod PlannedEntries
pub mod GrowingLines
mod ToldFaults
mod ToldCommands
mod ToldPlans
mod ToldTraces
