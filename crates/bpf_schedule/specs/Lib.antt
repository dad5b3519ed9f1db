pub mod Spelling
pub mod Moves
