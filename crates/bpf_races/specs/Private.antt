-- What private functions promise each other: no public clause speaks of it.
pub mod Accesses
pub mod Clashes
pub mod Parts
pub mod Searching
pub mod Within
pub mod Exchanging
