pub mod Given
pub mod Values
pub mod Counts
pub mod Put
