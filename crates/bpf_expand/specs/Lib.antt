pub mod State
pub mod Lines
pub mod Filter
pub mod Parts
pub mod Laws
pub mod Private
