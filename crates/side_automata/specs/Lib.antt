pub mod Rounds
pub mod BothForms
pub mod Sides
pub mod Defeat
pub mod Limits
pub mod Laws
