pub mod Literal
pub mod Clause
pub mod Truth
pub mod Partial
pub mod Laws
pub mod Equality
pub mod Codes
