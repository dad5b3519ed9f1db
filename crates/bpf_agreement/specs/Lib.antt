pub mod Steps
pub mod Calm
pub mod Ends
pub mod Arrays
pub mod Laws
pub mod Printed
pub mod Example
