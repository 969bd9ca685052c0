pub mod Output
pub mod Decimal
pub mod Appends
pub mod Puts
