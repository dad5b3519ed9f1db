pub mod Layouts
pub mod Depths
pub mod Births
pub mod Indexes
pub mod Parts
pub mod Maps
pub mod Spelled
pub mod WordBytes
