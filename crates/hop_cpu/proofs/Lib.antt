pub mod Calling
pub mod Elements
pub mod Ran
pub mod Grown
