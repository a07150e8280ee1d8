pub mod LearningLemmas
pub mod PassingLemmas
pub mod CollectingLemmas
pub mod VisitingLemmas
pub mod HeaderLemmas
pub mod WarmingLemmas
