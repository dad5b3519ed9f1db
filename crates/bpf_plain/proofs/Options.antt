-- What is known of an option's value, and what of none.
pub use Rattle.bpf_hash.proofs.Options.{at_some, at_none}
