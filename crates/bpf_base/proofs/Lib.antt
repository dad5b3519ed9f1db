pub mod Lists
pub mod Mapped
pub mod Numbers
pub mod Parts
