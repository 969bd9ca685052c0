pub mod WordLaws
pub mod StartLaws
pub mod Stages
pub mod StateLaws
pub mod Positions
pub mod NameLaws
