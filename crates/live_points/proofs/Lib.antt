pub mod KindsLemmas
pub mod RunLemmas
pub mod PointLemmas
pub mod HeaderLemmas
pub mod SharingLemmas
