pub mod CodeLaws
pub mod CodesMean
pub mod Noting
pub mod GlyphLaws
pub mod InputLaws
pub mod InputMean
pub mod AlphabetLaws
pub mod SymbolWidths
