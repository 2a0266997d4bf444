pub mod Stops
pub mod Standing
pub mod Walking
pub mod Opened
pub mod Changed
