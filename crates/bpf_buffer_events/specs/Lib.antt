pub mod Happenings
pub mod Printed
pub mod Private
