pub mod Accepted
pub mod Solved
