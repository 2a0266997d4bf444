pub mod Raised
pub mod Divided
pub mod Own
pub mod Walked
pub mod Linked
pub mod Shared
pub mod Treeless
pub mod Summed
