pub mod Watched
pub mod Told
