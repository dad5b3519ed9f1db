pub mod Letters
pub mod LongestSign
pub mod Finding
