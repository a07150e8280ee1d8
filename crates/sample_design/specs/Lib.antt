pub mod Design
pub mod Order
pub mod Units
