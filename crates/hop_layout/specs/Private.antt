-- What private functions cite.
pub mod Index
