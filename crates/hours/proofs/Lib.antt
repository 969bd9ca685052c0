pub mod Least
pub mod OneWindow
pub mod Waits
pub mod RowWords
pub mod Adding
pub mod Claims
pub mod Samples
