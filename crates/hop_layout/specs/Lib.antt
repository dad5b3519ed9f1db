pub mod Layout
pub mod Births
pub mod Home
pub mod Words
pub mod Private
