pub mod Claim
pub mod Records
