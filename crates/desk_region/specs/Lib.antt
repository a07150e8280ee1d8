pub mod Span
pub mod SpanView
pub mod Region
pub mod RegionView
pub mod Lending
