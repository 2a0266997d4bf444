pub mod Lists
pub mod Got
pub mod Kept
pub mod Orders
pub mod Entries
pub mod Sent
pub mod Acted
pub mod Once
