pub mod CommandLine
pub mod Numbers
pub mod Settings
pub mod Plain
