pub mod Names
pub mod States
pub mod Board
pub mod Kept
pub mod Laws
