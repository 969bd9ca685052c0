-- The tokens of a text begin one behind the other: each takes at least its first character.
use Prim.Native.Nat.{ℕ, zero, suc, ◌+◌, ◌≤◌, ◌<◌}
use native.Mathlib.Omega.{arith}
use mathlib.Core.List.{List, [], ◌∷◌}
use lib.ListN.{length}
use Rattle.chars.specs.Utf8.{size}
use Rattle.chars.proofs.Encoding.{size-range}
use Rattle.lexer.specs.Tokens.{Span, Token, Step, gap, tok, step, emit, tokens_from, tokens}
use Rattle.lexer.proofs.Placed.{All, all-at}
use Rattle.parser.specs.Meaning.{nothing, at}

abbrev From : ℕ → List (Token Span) → Type 0
From o ts = All (λ t. o ≤ t.place.start) ts

from_less : (o m : ℕ) (ts : List (Token Span)) → o ≤ m → From m ts → From o ts
from_less o m [] h a = tt
from_less o m (t ∷ ts) h a = (omega (arith, a.0), from_less o m ts h a.1)

emit_from : (o m : ℕ) (s : Step) (next : ℕ → List (Token Span)) → o ≤ m → ((n : ℕ) → From m (next n)) → From o (emit o s next)
unfolding emit
emit_from o m gap next h a = from_less o m (next 0) h (a 0)
emit_from o m (tok k w x y n) next h a = (omega arith, from_less o m (next n) h (a n))

starts_from : (l : List ℕ) (k o : ℕ) → From o (tokens_from k o l)
unfolding tokens_from
starts_from [] k o = (omega arith, tt)
starts_from (c ∷ r) (suc k) o = from_less o (o + size c) (tokens_from k (o + size c) r) (omega arith) (starts_from r k (o + size c))
starts_from (c ∷ r) zero o = emit_from o (o + size c) (step c r) (λ n. tokens_from n (o + size c) r) (omega arith) (λ n. starts_from r n (o + size c))

abbrev Rises : List (Token Span) → Type 0
Rises ts = (x y : ℕ) → x < y → y < length ts → (at ts x).place.start < (at ts y).place.start

cons_rises : (t : Token Span) (m : ℕ) (ts : List (Token Span)) → t.place.start < m → From m ts → Rises ts → Rises (t ∷ ts)
cons_rises t m ts h a r zero zero l b = absurd (omega arith)
cons_rises t m ts h a r zero (suc y) l b = omega (arith, all-at (λ t. m ≤ t.place.start) ts y nothing a (omega arith))
cons_rises t m ts h a r (suc x) zero l b = absurd (omega arith)
cons_rises t m ts h a r (suc x) (suc y) l b = r x y (omega arith) (omega arith)

emit_rises : (o m : ℕ) (s : Step) (next : ℕ → List (Token Span)) → o < m → ((n : ℕ) → From m (next n)) → ((n : ℕ) → Rises (next n)) → Rises (emit o s next)
unfolding emit
emit_rises o m gap next h a r = r 0
emit_rises o m (tok k w x y n) next h a r = cons_rises _ m (next n) h (a n) (r n)

from_rises : (l : List ℕ) (k o : ℕ) → Rises (tokens_from k o l)
unfolding tokens_from
from_rises [] k o = λ x y l b. absurd (omega arith)
from_rises (c ∷ r) (suc k) o = from_rises r k (o + size c)
from_rises (c ∷ r) zero o =
    emit_rises o (o + size c) (step c r) (λ n. tokens_from n (o + size c) r) (omega (arith, size-range c)) (λ n. starts_from r n (o + size c)) (λ n. from_rises r n (o + size c))

pub tokens_rise : (cs : List ℕ) (x y : ℕ) → x < y → y < length (tokens cs) → (at (tokens cs) x).place.start < (at (tokens cs) y).place.start
unfolding tokens
tokens_rise cs = from_rises cs 0 0
