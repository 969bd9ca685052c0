pub mod Puts
pub mod Turns
pub mod CommentLaws
pub mod RuleLaws
pub mod WheelLaws
pub mod ExpandLaws
pub mod RowLaws
