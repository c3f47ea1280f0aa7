pub mod Lists
pub mod Meaning
pub mod TextFacts
