pub mod Rounds
pub mod Closed
pub mod PlayLaws
pub mod Playing
pub mod Sides
pub mod Repeats
pub mod Defeats
