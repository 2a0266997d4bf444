pub mod Walks
pub mod Gathers
pub mod Found
