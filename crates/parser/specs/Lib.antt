pub mod Row
pub mod ItemNumbers
pub mod Views
pub mod Lines
pub mod Calls
pub mod Meaning
