pub mod Occurring
pub mod Bounded
