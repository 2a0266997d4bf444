pub mod Fitting
pub mod Joined
pub mod Several
pub mod Settings
pub mod Queues
pub mod Words
pub mod Uses
pub mod ShareTree
