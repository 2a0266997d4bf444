mod Written
mod Unchanged
mod ReadParts
mod Taken
