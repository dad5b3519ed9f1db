mod Held
mod Joints
mod PlainTests
mod TestLines
pub mod Verdicts
mod SingleRuns
