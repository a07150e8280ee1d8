pub mod Kinds
pub mod KindsView
pub mod Beyond
pub mod Points
pub mod Sharing
pub mod PointAnswers
pub mod Laws
