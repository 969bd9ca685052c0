-- The tokens that stand in a row of words (crates/tokens).
unfoldable pub use Rattle.tokens.specs.Row.{tokens_in}
pub use Rattle.tokens.specs.Row.{ended, peek}
