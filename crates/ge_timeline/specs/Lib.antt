pub mod StepFunctions
pub mod Chains
pub mod Kept
pub mod Looks
pub mod Scattered
pub mod Shown
pub mod Taking
