pub mod Trails
pub mod Growing
pub mod Printing
pub mod Reaching
mod Sequential
pub mod Replays
pub mod Marking
pub mod Hanging
