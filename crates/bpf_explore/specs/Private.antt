-- What private functions promise each other: no public clause speaks of it.
pub mod Slots
pub mod Kept
pub mod Album
pub mod Scouts
pub mod States
pub mod Trail
pub mod Spread
pub mod Peers
pub mod Answers
pub mod Patience
pub mod Edges
pub mod Replays
pub mod Ends
pub mod Hung
pub mod Exchanged
pub mod Depths
pub mod Permuted
