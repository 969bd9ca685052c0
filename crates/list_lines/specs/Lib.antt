pub mod Listing
pub mod Puts
pub mod Columns
