pub mod Pages
pub mod NameLaws
pub mod WalkLaws
pub mod SectionLaws
pub mod Widths
