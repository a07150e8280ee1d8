pub mod Answer
pub mod Confidence
pub mod Sums
