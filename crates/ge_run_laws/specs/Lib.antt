pub mod Standing
pub mod StandingFrames
