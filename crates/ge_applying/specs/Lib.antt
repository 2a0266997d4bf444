pub mod Reports
pub mod Ends
pub mod Loads
pub mod Over
