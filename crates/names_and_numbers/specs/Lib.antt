pub mod Numerals
pub mod Reading
pub mod Prefix
