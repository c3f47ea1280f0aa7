pub mod Choosing
pub mod Ordering
pub mod Rows
pub mod Machines
pub mod States
pub mod Wholes
