pub mod Ordering
pub mod Holding
