pub mod Evenness
pub mod Batching
