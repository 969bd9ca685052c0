pub mod Tape
pub mod Step
pub mod Run
pub mod Refusals
pub mod Fit
pub mod Batch
