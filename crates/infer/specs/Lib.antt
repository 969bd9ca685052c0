pub mod Page
pub mod Feeds
pub mod States
pub mod Names
