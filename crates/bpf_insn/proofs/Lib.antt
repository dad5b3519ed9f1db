pub mod Registers
pub mod Shape
pub mod Dispatch
pub mod Spelling
pub mod Law
pub mod Program
pub mod Bytes
pub mod Determined
