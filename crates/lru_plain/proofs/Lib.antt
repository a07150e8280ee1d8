pub mod Plains
pub mod CacheLemmas
pub mod ListsLemmas
pub mod Segments
