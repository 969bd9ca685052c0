pub mod Answer
pub mod Given
