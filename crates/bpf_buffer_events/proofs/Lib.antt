pub mod Seen
pub mod Noted
pub mod Items
pub mod Joined
pub mod Histories
pub mod OneHistory
