pub mod Charts
pub mod Outside
