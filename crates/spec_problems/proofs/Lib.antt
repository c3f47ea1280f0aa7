pub mod Refusals
pub mod Whole
pub mod Within
pub mod OneAnswer
