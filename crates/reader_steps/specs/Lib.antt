pub mod Records
pub mod Begun
pub mod Opens
