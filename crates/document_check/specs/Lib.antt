pub mod Facts
pub mod Holds
pub mod FirstBad
pub mod Laws
pub mod Shown
pub mod Alike
