pub mod AlikeLists
pub mod AlikeHelpers
pub mod AlikeRows
pub mod AlikeStates
pub mod AlikeOnce
pub mod Needed
