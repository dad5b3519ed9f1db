pub mod PlainStore
pub mod Alike
pub mod Read
pub mod Shows
pub mod Legality
pub mod Lemmas
pub mod Private
