pub mod Access
pub mod Evidence
pub mod Private
