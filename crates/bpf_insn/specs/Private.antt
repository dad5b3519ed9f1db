-- What only private functions of the crate cite.
pub mod Bytes
pub mod Families
pub mod Lookup
pub mod Candidate
pub mod Reading
