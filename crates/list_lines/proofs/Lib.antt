pub mod Samples
pub mod Chain
pub mod Lists
pub mod Alone
pub mod Columns
