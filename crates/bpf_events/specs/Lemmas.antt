-- What a recorder's passages need a proof of: the toolchain wants these among the definitions.
pub mod Passages
