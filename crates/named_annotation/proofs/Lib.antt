pub mod Numbered
pub mod Counting
pub mod Readings
pub mod StatedFacts
pub mod Showing
pub mod Taking
pub mod Lines
pub mod EdgeLemmas
