pub mod Ends
pub mod MapLines
pub mod Reports
