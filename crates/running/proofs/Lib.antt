pub mod Samples
pub mod Runs
pub mod Cells
pub mod Starts
pub mod NoStart
pub mod Readings
pub mod Batches
pub mod Laws
