pub mod Cursor
pub mod Repeats
pub mod Pending
pub mod Stands
