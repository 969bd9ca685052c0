pub mod Answers
pub mod WellFormed
pub mod Sections
pub mod Machines
