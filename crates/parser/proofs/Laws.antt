-- Laws of the row and of what is asked of one token, for the proofs of this crate and of those above it.
use mathlib.Core.Path.{◌≡◌, sym, ap, ◌∙◌}
use Prim.Native.Nat.{ℕ, ◌<◌}
use native.Mathlib.Omega.{arith}
use native.Mathlib.Decide.{dec_lt}
use mathlib.Core.Bool.{Bool, true, false}
use mathlib.Core.List.{List}
use lib.ListN.{length, get_or-eq_default}
use Rattle.parser.specs.Row.{ended, peek}
use Rattle.tokens.specs.declared.Token.{Token}
-- ---- the row
pub use Rattle.tokens.proofs.Rows.{length-tokens, peek-read, peek_past}

pub ruleset row_tokens = (peek-read, peek_past)

false_true : true ≡ false → ⊥
false_true e = let z : ◌≡◌ {A = ℕ} 0 1 = cc in omega arith

-- a token that passes a test that no line feed passes stands in the row
pub inside : (f : Token → Bool) (ts : List Token) (i : ℕ) → f ended ≡ false → f (peek ts i) ≡ true → i < length ts
inside f ts i e p = go (dec_lt i (length ts))
  where
    go : Dec (i < length ts) → i < length ts
    go (yes q) = q
    go (no q) = let z : true ≡ false = sym p ∙ ap f (get_or-eq_default ts ended (omega arith)) ∙ e in absurd (false_true z)
