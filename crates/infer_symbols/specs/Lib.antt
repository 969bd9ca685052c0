pub mod Codes
pub mod Symbols
pub mod Input
pub mod Alphabets
pub mod Notes
