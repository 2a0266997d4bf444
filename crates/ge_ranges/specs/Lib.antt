pub mod Forming
pub mod Meeting
pub mod Parsing
