pub mod NamedStates
pub mod NamedText
pub mod Laws
pub mod Parts
