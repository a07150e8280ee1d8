pub mod Draws
pub mod Least
pub mod Outcome
