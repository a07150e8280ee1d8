pub mod Placing
pub mod Uniting
pub mod PlainSets
pub mod Merging
pub mod Turns
pub mod Apart
pub mod Filling
pub mod Filled
