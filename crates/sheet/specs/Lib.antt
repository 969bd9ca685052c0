pub mod Puts
pub mod Comments
pub mod Turns
pub mod Wheels
pub mod Rules
