pub mod Merge
pub mod Pouring
