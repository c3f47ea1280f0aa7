pub mod FirstBad
pub mod Verified
pub mod Answer
pub mod Laws
pub mod Reply
