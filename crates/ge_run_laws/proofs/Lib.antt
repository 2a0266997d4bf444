mod Codes
mod Fronts
mod Runs
mod Frames
mod Links
mod Examples
