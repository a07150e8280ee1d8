pub mod BatchLemmas
pub mod FoldLemmas
pub mod GivenLemmas
pub mod HeaderLemmas
pub mod TakenLemmas
