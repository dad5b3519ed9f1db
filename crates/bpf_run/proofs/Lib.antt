pub mod ReplyLemmas
pub mod OneReply
pub mod Raced
pub mod Followed
mod Opened
mod BufferOpened
mod Talked
mod BufferTalked
mod FoundRaces
mod AsObjects
mod HungPlaces
mod PrintedPlaces
mod Asked
mod FilesRead
