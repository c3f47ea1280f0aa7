pub mod Ground
pub mod Problems
pub mod Texts
pub mod Laws
