pub mod Kind
pub mod Parts
pub mod Rules
pub mod Tables
pub mod View
