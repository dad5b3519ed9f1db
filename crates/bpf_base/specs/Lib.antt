pub mod Atomic
pub mod Bytes
pub mod Laws
pub mod Hashes
