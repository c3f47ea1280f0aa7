pub mod Task
pub mod Seat
pub mod Decided
pub mod SizeLog
