pub mod Grants
pub mod JobLines
pub mod JobFields
pub mod QueueLines
pub mod Listing
pub mod Accounting
pub mod Orders
pub mod Booked
