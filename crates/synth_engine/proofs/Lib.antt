pub mod WorkerLemmas
pub mod HandLemmas
pub mod SettledLemmas
pub mod PlanLemmas
pub mod ConcludedLemmas
pub mod SearchLemmas
