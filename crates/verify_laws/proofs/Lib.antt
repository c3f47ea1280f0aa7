pub mod Skipping
pub mod Headers
pub mod Moving
pub mod Verified
