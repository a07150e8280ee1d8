pub mod WorkerLemmas
pub mod CrewLemmas
pub mod TallyLemmas
