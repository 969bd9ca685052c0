pub mod Utf8
pub mod Ranges
pub mod Class
pub mod Decoded
pub mod Blocks
pub mod Short
