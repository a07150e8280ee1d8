pub mod Demo
pub mod Estimate
pub mod Migrate
pub mod Run
pub mod Sample
pub mod Warm
