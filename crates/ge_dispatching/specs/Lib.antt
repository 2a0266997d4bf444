pub mod Telling
pub mod Dispatching
