pub mod Records
pub mod Directions
pub mod Views
