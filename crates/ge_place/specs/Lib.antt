pub mod Giving
pub mod Hosts
pub mod Shared
pub mod Singles
pub mod Spots
pub mod Sums
