-- What private functions of the reader answer. No public clause speaks of these definitions.
pub mod Answers
pub mod Cuts
pub mod Drafts
pub mod Fits
pub mod Lines
pub mod Numbers
pub mod Symbols
