pub mod Duty
pub mod FirstBad
pub mod Forms
pub mod Parts
pub mod Laws
