pub mod Content
pub mod Starts
pub mod NoStart
pub mod OneStep
pub mod Loop
pub mod OneTape
pub mod RuleDue
