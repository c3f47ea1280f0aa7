pub mod Marks
pub mod Counted
pub mod Smallness
pub mod Laws
