-- The tokens that stand in a row of words (crates/tokens), and what is behind them.
use Rattle.std.specs.Prelude.{ℕ, ◌≡◌, List, length, take}
pub use Rattle.tokens.specs.Row.{rows}

-- nothing has changed in front of b
pub record Kept (b : ℕ) (w₀ w : List ℕ) : Type 0 where
  pub front : take b w ≡ take b w₀
  pub size : length w ≡ length w₀
