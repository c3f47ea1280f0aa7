pub mod Taken
pub mod Forms
pub mod SolveText
pub mod Parts
pub mod Laws
