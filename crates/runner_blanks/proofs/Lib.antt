pub mod Swept
pub mod Far
