pub mod Appends
pub mod Points
pub mod Digits
pub mod Chain
