pub mod ByShortcut
pub mod Read
