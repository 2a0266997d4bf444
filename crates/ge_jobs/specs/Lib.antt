pub mod JobEdits
pub mod Deletions
