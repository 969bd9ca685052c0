pub mod Hours
pub mod Code
pub mod Rows
pub mod Claims
