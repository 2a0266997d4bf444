pub mod Bases
pub mod Passing
pub mod Sooner
pub mod UnderWay
