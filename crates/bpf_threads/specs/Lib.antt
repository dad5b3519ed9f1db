pub mod Chart
pub mod Counting
pub mod Lines
pub mod Outside
pub mod Private
pub mod Threads
