pub mod Members
pub mod Rising
pub mod Tests
pub mod Repeats
pub mod Totals
