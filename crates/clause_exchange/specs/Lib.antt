pub mod SharedLog
pub mod Rule
pub mod Steps
pub mod Offers
pub mod Passes
pub mod Opening
