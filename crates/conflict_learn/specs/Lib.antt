pub mod Learnt
pub mod Places
pub mod Analysis
