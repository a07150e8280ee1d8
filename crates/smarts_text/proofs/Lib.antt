pub mod KeysLemmas
pub mod LineLemmas
pub mod NumberLemmas
pub mod PartsLemmas
pub mod ProcessorLemmas
pub mod WordsLemmas
