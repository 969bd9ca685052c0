pub mod Row
pub mod Records
pub mod Shown
pub mod Compared
pub mod Searched
pub mod Applied
pub mod Indexed
