pub mod NameTokens
pub mod NameParsers
pub mod NameLines
pub mod NameMachine
pub mod Pieces
pub mod MachineLines
pub mod Listings
