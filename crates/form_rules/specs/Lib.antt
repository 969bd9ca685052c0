pub mod Rules
pub mod Formed
