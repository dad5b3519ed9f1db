-- What private functions cite.
pub mod Closing
pub mod Dealing
pub mod Inside
pub mod Kinds
pub mod Made
pub mod Seats
pub mod Step
