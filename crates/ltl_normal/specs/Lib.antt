pub mod Simplify
pub mod Table
pub mod NormalTrees
pub mod NormalNodes
pub mod Performs
pub mod Truths
