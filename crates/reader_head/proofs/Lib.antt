pub mod HeadLaws
pub mod HeadMeans
pub mod TokenSays
pub mod ItemSays
