pub mod FollowLemmas
pub mod WordsLemmas
pub mod MemoryLemmas
pub mod LiveWordsLemmas
pub mod CollectorLemmas
pub mod PackedLemmas
pub mod SlotsLemmas
pub mod WindowsLemmas
