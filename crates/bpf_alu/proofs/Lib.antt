pub mod Bitwise
pub mod Quotient
