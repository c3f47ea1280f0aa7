pub mod Totals
pub mod Knowing
pub mod Keeping
pub mod Seats
pub mod Offering
pub mod Closing
