-- What private functions promise each other: no public clause speaks of it.
pub mod Lanes
pub mod Turns
pub mod Headways
pub mod KeyLists
pub mod Parts
pub mod Standing
