pub mod EdgeLemmas
pub mod GainLemmas
