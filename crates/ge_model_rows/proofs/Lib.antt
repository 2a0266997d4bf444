pub mod FaultLaws
mod WorkedValues
mod PieceRows
mod WorkedSets
pub mod Steps
pub mod Form
pub mod Runs
pub mod Cuts
pub mod Sets
pub mod Turns
pub mod Merged
pub mod Together
pub mod Numbers
pub mod Unique
pub mod Walks
pub mod Digits
pub mod ReadBack
pub mod Limits
mod GroupRows
mod WorkedSites
pub mod OverrideLaws
