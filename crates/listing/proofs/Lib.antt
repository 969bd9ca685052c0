pub mod Whole
pub mod Words
