-- The words of a short text's tokens stand at the front of the row, and fit.
use mathlib.Core.Path.{◌≡◌, refl, sym, ap, ◌∙◌}
use Prim.Native.Nat.{ℕ, ◌+◌, ◌-◌, ◌*◌, ◌≤◌, ◌<◌}
use native.Mathlib.Omega.{arith}
use mathlib.Core.List.{List, ◌++◌}
use lib.ListN.{length, take, drop, length-append}
use lib.Seq.{take_at}
use mir.Syntax.{w64}
use mir.Val.{Fits}
use Rattle.chars.specs.Utf8.{decode}
use Rattle.lexer.specs.Tokens.{tokens}
use Rattle.lexer.specs.Words.{flat, onto}
use Rattle.lexer.proofs.Writes.{length-flat, tokens_of_bytes}

module _ (t : List ℕ) (n : ℕ) (h : length t ≤ 80) (e : n ≡ length (tokens (decode t))) where
  pub few_fits : Fits w64 (4 * n)
  few_fits = omega (arith, tokens_of_bytes t)

  pub few : (w w' : List ℕ) → w' ≡ onto (flat (tokens (decode t))) w → 4 * n ≤ length w'
  unfolding onto
  few w w' p =
      let ts = tokens (decode t) in
      omega (arith, ap length p, length-append (flat ts) (drop (length (flat ts)) w), length-flat ts)

  pub written : (w w' : List ℕ) → w' ≡ onto (flat (tokens (decode t))) w → take (4 * n) w' ≡ flat (tokens (decode t))
  unfolding onto
  written w w' p =
      let ts = tokens (decode t) in
      let o : length (flat ts) ≡ 4 * n = omega (arith, length-flat ts) in
      ap (take (4 * n)) p ∙ take_at (flat ts) (drop (length (flat ts)) w) (4 * n) o
