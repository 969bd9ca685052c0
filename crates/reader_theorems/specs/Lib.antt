pub mod Ready
pub mod Sections
