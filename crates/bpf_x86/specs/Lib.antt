pub mod Buffers
pub mod Forwarding
pub mod Machine
pub mod Laws
