pub mod ExpandOnce
pub mod LassoOnce
pub mod Replies
