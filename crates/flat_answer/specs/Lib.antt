pub mod Expand
pub mod Lasso
pub mod Expansions
pub mod Laws
