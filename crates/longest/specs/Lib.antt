pub mod Most
pub mod Line
pub mod Call
