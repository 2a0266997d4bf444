pub mod Counts
pub mod Live
pub mod Once
