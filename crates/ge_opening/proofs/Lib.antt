pub mod Both
pub mod Ordered
pub mod Unforced
