pub mod Arbiter
