pub mod Peaks
pub mod Earliest
pub mod Decided
pub mod Laws
pub mod Same
pub mod Once
pub mod Taken
pub mod Filled
pub mod Demanded
pub mod Admitted
pub mod Sums
pub mod Exact
pub mod Chosen
pub mod Greatest
pub mod Blocks
pub mod Rounds
pub mod Placed
pub mod Moments
pub mod Sooner
pub mod NextEnd
pub mod First
pub mod Whole
pub mod Granted
mod Site
mod DayRows
mod RunRows
mod ConsumedRows
mod AdvanceRows
mod OpenRows
mod LevelRows
