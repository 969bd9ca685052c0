pub mod OneRead
pub mod AllRead
pub mod AllRan
pub mod WholeBatch
