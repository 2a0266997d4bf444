pub mod Cut
pub mod Filled
