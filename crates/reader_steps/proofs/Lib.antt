pub mod Begins
pub mod Outcomes
pub mod OnWords
pub mod Stages
