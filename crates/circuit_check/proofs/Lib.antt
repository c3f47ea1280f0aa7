mod TwoWords
mod Signals
pub mod Found
mod Determined
