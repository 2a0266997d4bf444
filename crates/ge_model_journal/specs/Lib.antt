pub mod Disk
pub mod Area
pub mod Journal
pub mod Writing
pub mod Examples
