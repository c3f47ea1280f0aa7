pub mod Gates
pub mod Table
pub mod Bits
pub mod Laws
pub mod Limits
