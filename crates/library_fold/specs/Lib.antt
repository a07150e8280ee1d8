pub mod Batches
pub mod Folding
pub mod Given
pub mod Stops
