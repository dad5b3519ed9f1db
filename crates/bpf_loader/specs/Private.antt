-- What private functions' contracts speak of.
pub mod Checks
pub mod Slots
