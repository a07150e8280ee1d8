pub mod Decoding
pub mod Encoding
pub mod Field
pub mod Props
pub mod Roles
pub mod Table
