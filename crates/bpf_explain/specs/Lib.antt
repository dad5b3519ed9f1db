pub mod Page
pub mod Term
