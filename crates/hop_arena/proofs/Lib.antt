pub mod Claiming
pub mod Filling
