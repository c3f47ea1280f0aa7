pub mod FlatOf
pub mod Laws
pub mod FlatNames
pub mod Kinds
