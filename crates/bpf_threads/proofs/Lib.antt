pub mod Standing
pub mod Steps
pub mod Runs
pub mod Adding
pub mod Straight
