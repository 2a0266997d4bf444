pub mod Walked
pub mod Turns
pub mod Changed
pub mod Copied
pub mod Heads
pub mod Noted
