pub mod Views
pub mod Rows
