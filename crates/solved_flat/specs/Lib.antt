pub mod Expand
pub mod Lasso
pub mod Taken
pub mod Shown
pub mod Laws
