pub mod Alike
pub mod Kinds
pub mod Parted
pub mod Ranked
pub mod Repeated
pub mod Standings
pub mod Told
pub mod Weighed
