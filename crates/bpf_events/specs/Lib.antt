pub mod Lines
pub mod Reports
pub mod Watched
pub mod Lemmas
pub mod Private
