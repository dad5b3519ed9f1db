pub mod Worlds
pub mod Covers
pub mod Patient
pub mod Ends
pub mod Budgets
