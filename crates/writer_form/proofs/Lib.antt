pub mod Forms
pub mod Handed
