pub mod Accepted
pub mod Altered
