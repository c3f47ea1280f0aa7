pub mod Bounds
pub mod Lines
pub mod Seen
pub mod Laws
