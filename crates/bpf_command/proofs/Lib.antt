pub mod OptionRows
pub mod GivenTexts
pub mod Walks
pub mod Subcommands
pub mod Ranges
pub mod Limited
pub mod Budget
pub mod Limit
pub mod Counted
mod SearchWorkers
pub mod Workers
pub mod PartCounts
pub mod Shown
pub mod Flags
pub mod Adding
