pub mod BodyLines
pub mod Gives
pub mod Items
