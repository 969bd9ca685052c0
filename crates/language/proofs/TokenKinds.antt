-- Tokens without their places: the lexer gives the same kinds wherever a text stands, one token at a time.
use Prim.Native.Nat.{ℕ, zero, suc, ◌+◌}
use mathlib.Core.List.{List, [], ◌∷◌, map}
use mathlib.Core.Path.{◌≡◌, refl, ap, ◌∙◌}
use lib.ListN.{drop}
use Rattle.chars.specs.Utf8.{size}
use Rattle.lexer.specs.Tokens.{TokenKind, newline, Span, Token, Step, gap, tok, step, emit, tokens_from, tokens}

-- the kind at the front, before those that follow
unfoldable pub emit_kind : Step → (ℕ → List TokenKind) → List TokenKind
emit_kind gap next = next 0
emit_kind (tok t w a b n) next = t ∷ next n

-- the kinds of a text's tokens, the first k characters passed over
unfoldable pub kinds_from : ℕ → List ℕ → List TokenKind
unfolding step emit_kind
kinds_from k [] = newline ∷ []
kinds_from (suc k) (c ∷ r) = kinds_from k r
kinds_from zero (c ∷ r) = emit_kind (step c r) (λ n. kinds_from n r)

unfoldable pub kinds : List ℕ → List TokenKind
unfolding kinds_from
kinds l = kinds_from 0 l

emit-kind : (o : ℕ) (s : Step) (f : ℕ → List (Token Span)) (g : ℕ → List TokenKind) → ((n : ℕ) → map (λ t. t.kind) (f n) ≡ g n) → map (λ t. t.kind) (emit o s f) ≡ emit_kind s g
unfolding emit emit_kind
emit-kind o gap f g h = h 0
emit-kind o (tok t w a b n) f g h = ap (λ r. t ∷ r) (h n)

from_kinds : (k o : ℕ) (l : List ℕ) → map (λ t. t.kind) (tokens_from k o l) ≡ kinds_from k l
unfolding tokens_from kinds_from
from_kinds k o [] = refl
from_kinds (suc k) o (c ∷ r) = from_kinds k (o + size c) r
from_kinds zero o (c ∷ r) = emit-kind o (step c r) _ _ (λ n. from_kinds n (o + size c) r)

-- the kinds of the tokens of a text
pub tokens-kinds : (l : List ℕ) → map (λ t. t.kind) (tokens l) ≡ kinds l
unfolding tokens kinds
tokens-kinds l = from_kinds 0 0 l

-- what is passed over does not matter
pub skip : (k : ℕ) (l : List ℕ) → kinds_from k l ≡ kinds (drop k l)
unfolding kinds
skip zero l = refl
skip (suc k) [] = refl
skip (suc k) (c ∷ r) = skip k r

-- one token, and what follows it
pub front : (c : ℕ) (r : List ℕ) {t : TokenKind} {w a b n : ℕ} → step c r ≡ tok t w a b n → kinds (c ∷ r) ≡ t ∷ kinds (drop n r)
unfolding kinds
front c r {t} {w} {a} {b} {n} e = ap (λ s. emit_kind s (λ n. kinds_from n r)) e ∙ ap (λ l. t ∷ l) (skip n r)
