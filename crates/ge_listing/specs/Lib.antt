pub mod Gathered
pub mod Taken
pub mod Sums
