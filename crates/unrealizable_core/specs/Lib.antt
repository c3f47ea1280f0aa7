pub mod Put
pub mod Reduced
pub mod Truths
pub mod Copies
pub mod Cut
pub mod WholeLaws
pub mod Shrink
pub mod Laws
