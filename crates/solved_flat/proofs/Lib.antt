pub mod Shown
pub mod Nodes
pub mod Same
pub mod ExpandOnce
pub mod LassoOnce
pub mod Replies
