pub mod Tests
pub mod Ahead
pub mod Futures
pub mod Trees
pub mod NodeEquality
pub mod Lists
pub mod ListSignals
