pub mod Booleans
pub mod Naturals
pub mod Options
pub mod Results
pub mod Lists
