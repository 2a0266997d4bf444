pub mod Loopback
pub mod Times
