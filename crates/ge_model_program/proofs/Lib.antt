pub mod Same
mod Rows
pub mod ReadWhole
pub mod Answered
pub mod ReplayAnswered
pub mod Own
pub mod Lengths
pub mod Ending
pub mod FramesFitting
pub mod Serving
mod LedgerExamples
pub mod LinksOn
pub mod Mapped
