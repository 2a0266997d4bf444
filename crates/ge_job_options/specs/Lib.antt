pub mod Held
pub mod Holding
pub mod Listing
pub mod Walking
