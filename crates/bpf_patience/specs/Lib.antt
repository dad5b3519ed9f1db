pub mod Patience
pub mod Ends
