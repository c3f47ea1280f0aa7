pub mod Order
pub mod Logs
pub mod Faults
pub mod Kept
