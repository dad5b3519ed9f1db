mod Subjects
mod ShownReplies
mod SeveralFiles
pub mod KnownBytes
pub mod OneJudged
pub mod OneExplored
pub mod SeenAgain
pub mod SeenOnX86
pub mod OneDebug
pub mod Shaped
pub mod FreshFiles
pub mod Cutting
pub mod ScriptReplies
pub mod BufferReplies
pub mod WrittenAnswers
pub mod ListedAgain
mod Judged
mod CheckedParts
pub mod Replied
pub mod OneText
pub mod CheckedOnX86
pub mod CheckedPatientlyOnX86
