pub mod Standing
pub mod Hosts
