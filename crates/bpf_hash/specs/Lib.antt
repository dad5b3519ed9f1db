pub mod HashStore
pub mod Alike
pub mod Read
pub mod Shows
pub mod Lemmas
pub mod Private
