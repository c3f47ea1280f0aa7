pub mod Grounds
pub mod Texts
pub mod NotSixth
pub mod Accepted
pub mod Parts
mod Solved
