pub mod Apart
pub mod Demanded
pub mod Placed
