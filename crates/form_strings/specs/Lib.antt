pub mod Writes
pub mod Strings
