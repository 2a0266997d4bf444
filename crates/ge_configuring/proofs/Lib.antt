pub mod Borne
pub mod OpeningNames
