pub mod Saved
pub mod State
pub mod Lines
pub mod Filter
pub mod Laws
pub mod Private
