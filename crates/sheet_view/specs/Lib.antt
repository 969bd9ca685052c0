pub mod Sections
pub mod Directions
pub mod Rules
