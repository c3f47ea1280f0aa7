pub mod TreeEquality
pub mod TruthKept
pub mod Building
pub mod Performing
pub mod SignalsKept
