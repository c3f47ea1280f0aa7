pub mod Ground
pub mod Heads
pub mod FirstBad
pub mod Holds
pub mod Laws
pub mod Sizes
pub mod Parts
