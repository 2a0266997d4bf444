pub mod Counts
pub mod Verdicts
pub mod KindNotes
pub mod Vacant
pub mod Common
pub mod Amounts
pub mod Closing
pub mod Rests
