pub mod Cuts
pub mod Readings
pub mod Stating
pub mod Naming
