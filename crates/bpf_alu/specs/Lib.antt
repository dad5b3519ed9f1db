pub mod Arithmetic
pub mod Bytes
pub mod Comparison
pub mod Width
