pub mod Registers
pub mod Live
pub mod Alike
pub mod Laws
pub mod Private
