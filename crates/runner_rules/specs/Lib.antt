pub mod Due
pub mod Firsts
pub mod Rules
pub mod Search
