pub mod Gates
pub mod Reads
pub mod Bodies
pub mod Logs
pub mod Lines
pub mod Opens
pub mod Appends
pub mod Records
