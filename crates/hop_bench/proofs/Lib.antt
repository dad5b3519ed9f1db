pub mod Held
pub mod Trials
