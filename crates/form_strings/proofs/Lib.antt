pub mod Chain
pub mod Characters
pub mod Strings
