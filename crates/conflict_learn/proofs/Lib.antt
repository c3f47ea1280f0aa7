pub mod PlacesLemmas
pub mod LevelLemmas
pub mod AnalysisLemmas
pub mod LearntLemmas
pub mod StepLemmas
pub mod AssumeLemmas
pub mod WholeLemmas
