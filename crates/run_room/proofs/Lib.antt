pub mod Kept
pub mod Named
pub mod Shown
pub mod Room
