-- Laws of the parts into which `intern` cuts the words: the tokens, the row of first equal words behind them, and the free words.
use mathlib.Core.Path.{◌≡◌, sym, ap, subst, ◌∙◌}
use mathlib.Core.List.{List, ◌++◌, append_assoc}
use Prim.Native.Nat.{ℕ, ◌+◌, ◌*◌, ◌≤◌}
use native.Mathlib.Omega.{arith}
use lib.ListN.{length, get_or, take, length-append, length-take, get_or-append}
use lib.Seq.{take-take, take-append_seam, get_or-append-add}
use Rattle.tokens.specs.declared.Token.{Token}
use Rattle.parser.specs.Row.{tokens_in}
use Rattle.assembler_names.specs.Rows.{rows, Kept}
use Rattle.assembler_names.specs.Names.{FirstsOf, Interned}
use Rattle.assembler_names.proofs.NameLaws.{length-rows, tokens-take}

module _ (count a b : ℕ) (w front tokens : List ℕ) (low : 4 * count ≤ a) (words : a + count ≤ b) (room : b ≤ length w) (f : front ≡ take b w) (t : tokens ≡ take a front) where
  tokens_are : tokens ≡ take a w
  tokens_are = t ∙ ap (take a) f ∙ take-take a b w (omega arith)

  size : length tokens ≡ a
  size = ap length tokens_are ∙ omega (arith, length-take a w)

  pub part_count : length (rows count tokens) ≡ count
  part_count = length-rows count tokens (omega (arith, size))

  rows_are : rows count tokens ≡ rows count w
  rows_are = sym (tokens-take count tokens) ∙ ap (λ (l : List ℕ). tokens_in (take (4 * count) l)) tokens_are ∙ ap tokens_in (take-take (4 * count) a w low) ∙ tokens-take count w

  module _ (row behind : List ℕ) (long : length row + a ≡ b) (rest : length behind + b ≡ length w) where
    pub parts_kept : Kept a w (tokens ++ row ++ behind)
    parts_kept = record {
      front = ap (take a) (append_assoc tokens row behind) ∙ ap (λ (n : ℕ). take n (tokens ++ (row ++ behind))) (sym size) ∙ take-append_seam tokens (row ++ behind) ∙ tokens_are;
      size = length-append (tokens ++ row) behind ∙ omega (arith, length-append tokens row, size);
    }

    pub parts_interned : (text : List ℕ) → FirstsOf text (rows count tokens) (length (rows count tokens)) row → Interned text (rows count w) a (tokens ++ row ++ behind)
    parts_interned text g = record {
      interned = λ x h e.
          let all : FirstsOf text (rows count w) (length (rows count w)) row = subst (λ (ts : List Token). FirstsOf text ts (length ts) row) rows_are g in
          let n : length (rows count w) ≡ count = length-rows count w (omega arith) in
          ap (λ (l : List ℕ). get_or l (a + x) 0) (append_assoc tokens row behind) ∙ ap (λ (n : ℕ). get_or (tokens ++ (row ++ behind)) (n + x) 0) (sym size)
          ∙ get_or-append-add tokens (row ++ behind) x 0 ∙ get_or-append row behind 0 x (omega arith) ∙ all.first x h e;
    }
