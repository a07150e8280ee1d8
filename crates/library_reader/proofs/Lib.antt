pub mod HandingLemmas
pub mod IntakeLemmas
pub mod ReadingLemmas
pub mod SizeLemmas
