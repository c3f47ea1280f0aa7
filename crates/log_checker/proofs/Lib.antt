pub mod MarkLemmas
pub mod FaultLemmas
pub mod PlaceLemmas
pub mod PieceLemmas
