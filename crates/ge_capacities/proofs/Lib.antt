pub mod Gathered
pub mod Once
pub mod Sets
