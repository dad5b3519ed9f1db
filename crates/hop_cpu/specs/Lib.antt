pub mod Serving
pub mod Passing
pub mod Growing
pub mod Running
pub mod Lemmas
