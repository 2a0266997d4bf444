pub mod Waiting
pub mod Ticketed
pub mod Dispatched
