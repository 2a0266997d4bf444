pub mod Refused
pub mod NamedTables
pub mod NamedPlans
pub mod ShownBack
mod DeletingRows
mod BookingRows
pub mod ReachingSteps
