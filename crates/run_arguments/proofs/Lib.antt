pub mod Samples
pub mod Digits
pub mod Options
