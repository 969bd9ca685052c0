pub mod Words
pub mod SheetNames
pub mod Rising
