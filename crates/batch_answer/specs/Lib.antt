pub mod ListText
pub mod Taken
pub mod Batch
pub mod Laws
