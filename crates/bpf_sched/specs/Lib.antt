pub mod Explained
pub mod Laws
pub mod Working
pub mod Worked
pub mod Refusing
pub mod Diagnostic
