pub mod Names
pub mod Signs
pub mod Operators
pub mod Helpers
pub mod Token
pub mod Form
pub mod Private
