pub mod Collecting
pub mod Learning
pub mod LearningView
pub mod Passing
pub mod Warming
