pub mod Codes
pub mod Sort
pub mod Records
pub mod Log
pub mod Runs
pub mod Paired
pub mod Appends
