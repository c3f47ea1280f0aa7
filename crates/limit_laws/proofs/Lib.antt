mod Added
mod Kept
mod Operated
mod Evaluated
mod Expanded
mod FormsFit
mod BothFit
mod Taken
