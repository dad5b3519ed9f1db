-- What private functions compute. No public clause speaks of these definitions.
pub mod Cutting
pub mod Digits
