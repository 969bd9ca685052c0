-- Equal names (crates/assembler_names).
unfoldable pub use Rattle.assembler_names.specs.Names.{same_name, same_word, first_equal}
pub use Rattle.assembler_names.specs.Names.{is_word}
