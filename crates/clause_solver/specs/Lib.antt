pub mod Levels
pub mod Worker
pub mod Turned
pub mod Free
pub mod Laws
