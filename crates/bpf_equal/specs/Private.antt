pub mod Twins
pub mod Finding
