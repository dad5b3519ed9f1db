-- What a field that is a fact needs a proof of: the toolchain wants these among the definitions.
pub mod Ranges
