pub mod Outcomes
pub mod Claim
pub mod Inhabited
