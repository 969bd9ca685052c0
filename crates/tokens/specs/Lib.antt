pub mod View
pub mod Row
pub mod Listed
