pub mod Standings
pub mod Steps
pub mod Growing
pub mod Overs
pub mod Wholes
pub mod CoreLaws
pub mod OtherParts
pub mod Replies
