pub mod Shape
pub mod View
pub mod Cache
pub mod Lists
pub mod CacheView
