pub mod Answers
pub mod Readings
pub mod Leading
pub mod Costs
pub mod Bounds
