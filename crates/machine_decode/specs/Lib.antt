pub mod Decoded
pub mod Written
