-- What private functions' contracts speak of.
pub mod Bins
pub mod Found
pub mod Grid
pub mod Parts
pub mod Sizes
pub mod Source
pub mod Target
