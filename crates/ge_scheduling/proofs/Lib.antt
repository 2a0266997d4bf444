pub mod Bridged
pub mod Shut
pub mod Kept
pub mod Waiting
pub mod PartByPart
pub mod Sound
