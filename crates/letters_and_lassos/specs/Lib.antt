pub mod Kinds
pub mod Signals
pub mod Cube
pub mod Word
pub mod Laws
pub mod Below
pub mod Bits
