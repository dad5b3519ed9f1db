pub mod ArrayPlaces
pub mod Watching
