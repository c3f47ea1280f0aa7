pub mod Positions
pub mod Unrolled
pub mod Sets
pub mod Meets
pub mod Below
pub mod Bits
