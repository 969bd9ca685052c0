pub mod Rows
pub mod Names
pub mod Order
pub mod Words
pub mod Index
pub mod Indexed
