pub mod Packets
pub mod Private
pub mod Reports
