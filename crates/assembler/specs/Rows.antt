-- The tokens that stand in a row of words (crates/assembler_names), and their places.
pub use Rattle.assembler_names.specs.Rows.{rows}
pub use Rattle.parser.specs.Views.{span_of as place_of}
