pub mod Keeping
pub mod Areas
pub mod Homes
pub mod Reading
pub mod Opening
pub mod Changing
