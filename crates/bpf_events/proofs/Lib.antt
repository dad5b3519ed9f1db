pub mod Noting
pub mod Watched
pub mod Told
pub mod Histories
