pub mod Cells
pub mod FirstTaken
pub mod Numbered
pub mod Places
pub mod Refusing
pub mod Spreads
pub mod Summing
pub mod Tries
