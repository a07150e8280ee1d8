pub mod FrontLemmas
pub mod LookupLemmas
pub mod MarkedLemmas
pub mod TraceLemmas
pub mod WarmingLemmas
