pub mod Recording
pub mod Watching
pub mod Told
