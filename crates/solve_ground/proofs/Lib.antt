mod FormsMade
pub mod Whole
pub mod Determined
