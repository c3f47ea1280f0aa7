pub mod LevelLemmas
pub mod IdleLemmas
pub mod TeachLemmas
pub mod NewLemmas
pub mod FreeLemmas
pub mod WorkLemmas
pub mod ModelLemmas
