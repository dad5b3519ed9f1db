mod LinesRead
mod TerminalLaws
mod Texts
mod TalkLaws
pub mod Alike
