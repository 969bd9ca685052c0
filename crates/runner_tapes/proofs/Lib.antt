pub mod Blank
pub mod Ways
pub mod Cells
pub mod AllHeads
pub mod Kept
