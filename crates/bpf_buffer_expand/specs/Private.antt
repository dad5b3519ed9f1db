pub mod Fits
pub mod Home
pub mod Next
pub mod Room
