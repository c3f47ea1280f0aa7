pub mod Lines
pub mod WordText
pub mod Stated
