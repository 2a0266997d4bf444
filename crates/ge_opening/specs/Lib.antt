pub mod Forced
pub mod Ranked
