pub mod HeadWords
pub mod Form
pub mod Samples
