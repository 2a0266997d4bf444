pub mod Answering
pub mod Holding
pub mod NextEvents
pub mod Tallies
pub mod Ends
pub mod Shows
pub mod ServingAreas
