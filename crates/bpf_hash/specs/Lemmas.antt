-- What the laws of a trait need a proof of: the toolchain wants these lemmas among the definitions.
pub mod Passages
