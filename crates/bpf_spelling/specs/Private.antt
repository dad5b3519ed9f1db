-- What private functions compute. No public clause speaks of these definitions.
pub mod Letters
