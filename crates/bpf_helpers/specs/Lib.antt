pub mod Arrays
pub mod Calls
pub mod Given
pub mod Held
pub mod Laws
pub mod Private
pub mod Reads
pub mod Saved
