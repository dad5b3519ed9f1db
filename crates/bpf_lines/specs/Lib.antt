pub mod Lines
pub mod Words
pub mod HexText
pub mod Diagnostic
pub mod Private
