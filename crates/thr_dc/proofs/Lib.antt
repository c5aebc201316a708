pub mod PredictorLemmas
pub mod PlaneLemmas
pub mod PredictionLemmas
pub mod NeighbourLemmas
pub mod WalkLemmas
pub mod FrameLemmas
pub mod LawLemmas
pub mod OrderedLemmas
