-- What private functions cite.
pub mod Accesses
pub mod UnderLock
pub mod Dumping
pub mod Finding
pub mod Listing
pub mod Locks
pub mod Replacing
pub mod Peeks
pub mod Port
pub mod Removals
pub mod Splitting
pub mod Stores
pub mod Updates
pub mod LockedSegment
pub mod Call
