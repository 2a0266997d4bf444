pub mod Alike
pub mod InUse
pub mod Running
