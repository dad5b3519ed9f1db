pub mod Stats
pub mod Printed
pub mod Laws
