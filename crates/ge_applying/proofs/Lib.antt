pub mod LeftRows
pub mod Folded
