pub mod Few
pub mod Bounds
pub mod Ties
pub mod Sheets
