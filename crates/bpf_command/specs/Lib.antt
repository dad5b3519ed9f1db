pub mod Lemmas
pub mod CommandLine
pub mod Names
