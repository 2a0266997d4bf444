pub mod Fixed
pub mod Refusal
