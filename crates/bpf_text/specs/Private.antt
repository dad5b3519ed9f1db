-- What private functions of the reader compute. No public clause speaks of these definitions.
pub mod Look
pub mod Pieces
pub mod Lines
pub mod Judging
pub mod Labels
pub mod Sources
pub mod Cutting
pub mod Forms
pub mod Loads
