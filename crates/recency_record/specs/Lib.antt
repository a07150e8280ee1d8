pub mod Uses
pub mod Recency
pub mod Slots
pub mod Faults
pub mod Parts
pub mod Views
