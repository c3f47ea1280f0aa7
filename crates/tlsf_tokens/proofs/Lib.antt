pub mod Longest
pub mod Quoted
pub mod Comment
pub mod Signs
pub mod Tables
pub mod Cutting
