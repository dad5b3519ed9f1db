pub mod Terminal
pub mod Talking
