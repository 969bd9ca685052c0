pub mod Comments
pub mod Lists
pub mod Finals
