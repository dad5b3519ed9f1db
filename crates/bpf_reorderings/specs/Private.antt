-- What private functions promise each other: no public clause speaks of it.
pub mod Trail
pub mod Searching
pub mod Answers
pub mod Edges
pub mod Hung
