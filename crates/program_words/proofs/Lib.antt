pub mod Building
pub mod Reading
pub mod Matching
pub mod PlainSteps
pub mod PlainWalks
pub mod PlainCommands
pub mod PlainFlags
pub mod PlainLaws
