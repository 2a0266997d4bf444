pub mod Kept
pub mod Ways
pub mod Going
pub mod Steps
pub mod Spelling
