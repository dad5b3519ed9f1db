pub mod Pairs
pub mod Putting
pub mod Filled
pub mod Laws
