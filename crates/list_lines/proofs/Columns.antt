-- Every token begins where a character begins: the lexer goes on by the sizes of the characters that it has taken.
use Prim.Native.Nat.{ℕ, zero, suc, ◌+◌}
use native.Mathlib.Omega.{arith}
use mathlib.Core.List.{List, [], ◌∷◌, ◌++◌, append_assoc}
use mathlib.Core.Path.{◌≡◌, refl, ap, sym, ◌∙◌}
use Rattle.std.proofs.lemmas.List.Elements.{All-from_recursion}
use Rattle.chars.specs.Utf8.{size, sizes, decode}
use Rattle.chars.proofs.Theorems.{sizes-append}
use Rattle.lexer.specs.Tokens.{Span, Token, Step, gap, tok, step, emit, tokens_from, tokens}
use Rattle.language.proofs.Every.{Every}
use Rattle.positions.specs.Positions.{line_column}
use Rattle.positions.proofs.Columns.{at_character}
use Rattle.list_lines.specs.Columns.{Shown, Columns}

module _ (t : List ℕ) where
  shown_at : (pre l : List ℕ) (o : ℕ) (token : Token Span) → decode t ≡ pre ++ l → o ≡ sizes pre → token.place.start ≡ o → Shown t token
  shown_at pre l o token split at e = record {
    before = pre;
    from = l;
    parts = split;
    start = e ∙ at;
    position = ap (line_column t) (e ∙ at) ∙ at_character t pre l split;
  }

  emit_shown : (pre l : List ℕ) (o : ℕ) (s : Step) (next : ℕ → List (Token Span)) → decode t ≡ pre ++ l → o ≡ sizes pre
      → ((n : ℕ) → Every (Shown t) (next n)) → Every (Shown t) (emit o s next)
  unfolding emit
  emit_shown pre l o gap next split at h = h 0
  emit_shown pre l o (tok k w a b n) next split at h = (shown_at pre l o _ split at refl, h n)

  past : (pre r : List ℕ) (c : ℕ) → decode t ≡ pre ++ c ∷ r → decode t ≡ (pre ++ c ∷ []) ++ r
  past pre r c split = split ∙ sym (append_assoc pre (c ∷ []) r)

  past_size : (pre : List ℕ) (c o : ℕ) → o ≡ sizes pre → o + size c ≡ sizes (pre ++ c ∷ [])
  unfolding sizes
  past_size pre c o at = omega (arith, at, sizes-append pre (c ∷ []))

  -- `pre` stands before the list that is left, at the place o
  from_shown : (pre l : List ℕ) (o k : ℕ) → decode t ≡ pre ++ l → o ≡ sizes pre → Every (Shown t) (tokens_from k o l)
  unfolding tokens_from
  from_shown pre [] o k split at = (shown_at pre [] o _ split at refl, tt)
  from_shown pre (c ∷ r) o (suc k) split at = from_shown (pre ++ c ∷ []) r (o + size c) k (past pre r c split) (past_size pre c o at)
  from_shown pre (c ∷ r) o zero split at =
      emit_shown pre (c ∷ r) o (step c r) (λ n. tokens_from n (o + size c) r) split at
      (λ n. from_shown (pre ++ c ∷ []) r (o + size c) n (past pre r c split) (past_size pre c o at))

pub columns : Columns
unfolding tokens
columns t _ = All-from_recursion (Shown t) (tokens (decode t)) (from_shown t [] (decode t) 0 0 refl refl)
