pub mod Fields
pub mod Segments
pub mod Span
pub mod Rules
pub mod FirstBroken
pub mod Image
pub mod View
pub mod Filling
