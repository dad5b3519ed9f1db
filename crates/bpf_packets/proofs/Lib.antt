pub mod Determined
pub mod Kept
pub mod Packets
