-- The words of a text's tokens stand behind one another, so they have no more bytes than the text.
use Prim.Native.Nat.{ℕ, zero, suc, ◌+◌, ◌≤◌}
use native.Mathlib.Omega.{arith}
use mathlib.Core.Bool.{Bool, false, ◌&&◌, not}
use mathlib.Core.List.{List, [], ◌∷◌}
use mathlib.Core.Path.{◌≡◌, refl}
use lib.Dec.{eqb}
use lib.ListN.{length, drop}
use Rattle.chars.specs.Utf8.{size, sizes}
use Rattle.chars.specs.Class.{class_of}
use Rattle.chars.specs.declared.Class.{Class}
use Rattle.chars.specs.declared.Class.TheVariants.{Letter, Digit, Space, Sign, Other}
use Rattle.lexer.specs.Tokens.{TokenKind, word, number, quoted, str, sign, comment, newline, unterminated_string, unterminated_quote, Span, Token, run, line, Inside, closed, unclosed, inside, Step, gap, tok, word_step, number_step, string_step, quoted_step, comment_step, slash_step, other_step, step, emit, tokens_from, tokens, is_word_continue}
use Rattle.language.proofs.Every.{by_test}

-- a sum over a list
unfoldable pub total : {A : Type 0} → (A → ℕ) → List A → ℕ
total f [] = 0
total f (a ∷ l) = f a + total f l

-- the bytes of a token that is a word
abbrev pub kind_bytes : TokenKind → ℕ
kind_bytes (word w) = sizes w
kind_bytes (number w) = 0
kind_bytes (quoted c) = 0
kind_bytes (str s) = 0
kind_bytes (sign c) = 0
kind_bytes (comment s) = 0
kind_bytes newline = 0
kind_bytes unterminated_string = 0
kind_bytes unterminated_quote = 0

-- the bytes of the words in a list of tokens
abbrev pub word_bytes : {P : Type 0} → List (Token P) → ℕ
word_bytes ts = total (λ t. kind_bytes t.kind) ts

-- ---- steps

drop_sizes : (n : ℕ) (l : List ℕ) → sizes (drop n l) ≤ sizes l
unfolding sizes
drop_sizes zero l = omega arith
drop_sizes (suc n) [] = omega arith
drop_sizes (suc n) (c ∷ l) = omega (arith, drop_sizes n l)

run_sizes : (test : ℕ → Bool) (r : List ℕ) → sizes (run test r) + sizes (drop (length (run test r)) r) ≤ sizes r
unfolding run sizes
run_sizes test [] = omega arith
run_sizes test (c ∷ r) =
    by_test (test c) (λ e. rw (e, run) (omega (arith, run_sizes test r))) (λ e. rw (e, run) (omega arith))

-- a token's word and what is left behind it are no more than what it was taken from
abbrev Pays : ℕ → List ℕ → Step → Type 0
Pays c r gap = Unit {0}
Pays c r (tok k w a b n) = kind_bytes k + sizes (drop n r) ≤ size c + sizes r

free_pays : (c : ℕ) (r : List ℕ) (n : ℕ) → 0 + sizes (drop n r) ≤ size c + sizes r
free_pays c r n = omega (arith, drop_sizes n r)

word_pays : (c : ℕ) (r : List ℕ) → Pays c r (word_step c r)
unfolding word_step sizes
word_pays c r = omega (arith, run_sizes is_word_continue r)

number_pays : (c : ℕ) (r : List ℕ) → Pays c r (number_step c r)
unfolding number_step
number_pays c r = free_pays c r _

string_pays : (c : ℕ) (r : List ℕ) → Pays c r (string_step r)
unfolding string_step
string_pays c r = go (inside false r) refl
  where
    go : (i : Inside) → inside false r ≡ i → Pays c r (string_step r)
    go (closed v n) e = rw (e, string_step) (free_pays c r n)
    go unclosed e = rw (e, string_step) (free_pays c r (length (line r)))

quoted_pays : (c : ℕ) (r : List ℕ) → Pays c r (quoted_step r)
unfolding quoted_step
quoted_pays c [] = free_pays c [] 0
quoted_pays c (x ∷ []) = free_pays c (x ∷ []) 0
quoted_pays c (x ∷ q ∷ r) =
    by_test (not (eqb x 10) && eqb q 0x27) (λ e. rw (e, quoted_step) (free_pays c (x ∷ q ∷ r) 2)) (λ e. rw (e, quoted_step) (free_pays c (x ∷ q ∷ r) 0))

slash_pays : (c : ℕ) (r : List ℕ) → Pays c r (slash_step r)
unfolding slash_step comment_step
slash_pays c [] = free_pays c [] 0
slash_pays c (d ∷ r) = by_test (eqb d 0x2F)
    (λ e. rw (e, slash_step) (free_pays c (d ∷ r) (suc (length (line r)))))
    (λ e. rw (e, slash_step) (free_pays c (d ∷ r) 0))

other_pays : (c : ℕ) (r : List ℕ) → Pays c r (other_step c r)
unfolding other_step
other_pays c r = by_test (eqb c 0x5F)
    (λ e. rw (e, other_step) (word_pays c r))
    (λ e. by_test (eqb c 0x22)
    (λ f. rw (e, f, other_step) (string_pays c r))
    (λ f. by_test (eqb c 0x27)
    (λ g. rw (e, f, g, other_step) (quoted_pays c r))
    (λ g. by_test (eqb c 0x2F)
    (λ h. rw (e, f, g, h, other_step) (slash_pays c r))
    (λ h. rw (e, f, g, h, other_step) (free_pays c r 0)))))

class_pays : (k : Class) (c : ℕ) (r : List ℕ) → Pays c r (elim k [
  | Space ↦ gap
  | Letter ↦ word_step c r
  | Digit ↦ number_step c r
  | Sign ↦ tok (sign c) (size c) 0 0 0
  | Other ↦ other_step c r
])
class_pays Space c r = tt
class_pays Letter c r = word_pays c r
class_pays Digit c r = number_pays c r
class_pays Sign c r = free_pays c r 0
class_pays Other c r = other_pays c r

step_pays : (c : ℕ) (r : List ℕ) → Pays c r (step c r)
unfolding step
step_pays c r = by_test (eqb c 10) (λ e. rw (e, step) (free_pays c r 0)) (λ e. rw (e, step) (class_pays (class_of c) c r))

-- ---- tokens

emit_pays : (c : ℕ) (r : List ℕ) (o : ℕ) (s : Step) (next : ℕ → List (Token Span)) → Pays c r s → ((n : ℕ) → word_bytes (next n) ≤ sizes (drop n r)) → word_bytes (emit o s next) ≤ size c + sizes r
unfolding emit total
emit_pays c r o gap next h e = omega (arith, e 0)
emit_pays c r o (tok k w a b n) next h e = omega (arith, e n, h)

from_pays : (k o : ℕ) (cs : List ℕ) → word_bytes (tokens_from k o cs) ≤ sizes (drop k cs)
unfolding tokens_from total sizes
from_pays k o [] = omega arith
from_pays (suc k) o (c ∷ r) = from_pays k (o + size c) r
from_pays zero o (c ∷ r) = emit_pays c r o (step c r) (λ n. tokens_from n (o + size c) r) (step_pays c r) (λ n. from_pays n (o + size c) r)

-- the words of a text have no more bytes than it has
pub tokens_pay : (cs : List ℕ) → word_bytes (tokens cs) ≤ sizes cs
unfolding tokens
tokens_pay cs = from_pays 0 0 cs
