pub mod Code
pub mod CodeText
pub mod Diagnostic
