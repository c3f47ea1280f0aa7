mod LineLemmas
pub mod Fitting
