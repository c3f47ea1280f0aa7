pub mod Annotation
pub mod Kept
pub mod Product
pub mod Numbered
pub mod Laws
