-- What private fields hold.
pub mod Frames
pub mod Packets
