pub mod Words
pub mod Line
pub mod Pattern
pub mod Value
pub mod Reading
pub mod Rows
