-- What private functions promise each other: no public clause speaks of it.
pub mod Asking
