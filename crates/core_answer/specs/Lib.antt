pub mod Over
pub mod Core
pub mod Laws
pub mod Reply
pub mod Known
pub mod Taken
