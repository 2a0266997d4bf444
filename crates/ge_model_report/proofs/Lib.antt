mod Samples
mod ListingRows
mod QueueRows
mod AccountingRows
mod OrderRows
mod BookedRows
pub mod OrderTexts
