pub mod Wanted
pub mod Satisfaction
pub mod Laws
