pub mod Reports
pub mod Outcomes
pub mod Calls
pub mod SectionLaws
pub mod SheetLaws
