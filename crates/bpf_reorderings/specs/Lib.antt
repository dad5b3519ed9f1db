pub mod Laws
pub mod Outcomes
pub mod Patient
pub mod Private
