pub mod Home
pub mod Next
pub mod Digits
pub mod Races
pub mod Traced
