pub mod Occurring
pub mod Explored
pub mod Sizes
pub mod CoverTable
pub mod Built
pub mod Paths
pub mod Limits
pub mod Laws
