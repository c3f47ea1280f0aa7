pub mod Wider
pub mod Laws
pub mod Forms
pub mod Taken
