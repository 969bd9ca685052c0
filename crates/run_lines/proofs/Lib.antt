pub mod Samples
pub mod Ends
pub mod Lines
pub mod Alone
