pub mod Replays
pub mod Marks
pub mod Sounds
pub mod Firsts
pub mod Updates
pub mod LawProofs
pub mod Problems
