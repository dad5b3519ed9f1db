pub mod Fresh
pub mod Passing
pub mod Trials
