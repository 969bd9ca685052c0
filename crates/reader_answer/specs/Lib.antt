pub mod Answer
pub mod Front
