-- A text has at least as many bytes as its tokens weigh: a byte each, and a word the bytes of its characters.
use Prim.Native.Nat.{ℕ, zero, suc, ◌+◌, ◌-◌, ◌≤◌}
use native.Mathlib.Omega.{arith}
use mathlib.Core.List.{List, [], ◌∷◌}
use mathlib.Core.Path.{◌≡◌, ap, ◌∙◌}
use lib.ListN.{take, drop}
use lib.Seq.{take-add}
use Rattle.chars.specs.Utf8.{size, sizes}
use Rattle.chars.proofs.Theorems.{sizes-append}
use Rattle.chars.proofs.Encoding.{size-range}
use Rattle.lexer.specs.Tokens.{TokenKind, word, number, quoted, str, sign, comment, newline, unterminated_string, unterminated_quote, Span, Token, Step, gap, tok, step, emit, tokens_from, tokens}
use Rattle.lexer.proofs.Steps.{Fit, Fits, step_fits}
use Rattle.lexer.proofs.Writes.{sizes-take}

-- what a token weighs: a word as many as its bytes, and one at least; any other one
unfoldable pub weight : TokenKind → ℕ
unfolding sizes
weight (word w) = suc (sizes w - 1)
weight _ = 1

-- what tokens weigh together
abbrev pub weigh : {P : Type 0} → List (Token P) → ℕ
weigh [] = 0
weigh (t ∷ ts) = weight (t.kind) + weigh ts

pub weight_least : (k : TokenKind) → 1 ≤ weight k
unfolding weight
weight_least (word w) = omega arith
weight_least (number w) = omega arith
weight_least (quoted c) = omega arith
weight_least (str s) = omega arith
weight_least (sign c) = omega arith
weight_least (comment s) = omega arith
weight_least newline = omega arith
weight_least unterminated_string = omega arith
weight_least unterminated_quote = omega arith

-- a word's characters are among those that it takes
word_sizes : (x : List ℕ) (c : ℕ) (r : List ℕ) (w a b n : ℕ) → Fit (word x) (c ∷ r) w a b n → sizes x ≤ size c + sizes (take n r)
unfolding sizes
word_sizes x c r w a b n f =
    let cs : List ℕ = c ∷ r in
    let i : ℕ = f.first in
    let j : ℕ = f.stop in
    let m : j ≡ i + (j - i) = omega (arith, f.order) in
    let p : sizes (take j cs) ≡ sizes (take i cs) + sizes (take (j - i) (drop i cs)) =
    ap (λ (k : ℕ). sizes (take k cs)) m ∙ ap sizes (take-add i (j - i) cs) ∙ sizes-append (take i cs) (take (j - i) (drop i cs)) in
    let q : sizes (take (j - i) (drop i cs)) ≡ sizes x = ap sizes (f.says) in
    omega (arith, p, q, f.behind, f.width, sizes-take (f.last) (suc n) cs (f.within))

fit_weight : (t : TokenKind) (c : ℕ) (r : List ℕ) (w a b n : ℕ) → Fit t (c ∷ r) w a b n → weight t ≤ size c + sizes (take n r)
unfolding weight
fit_weight (word x) c r w a b n f = omega (arith, word_sizes x c r w a b n f, size-range c)
fit_weight (number x) c r w a b n f = omega (arith, size-range c)
fit_weight (quoted x) c r w a b n f = omega (arith, size-range c)
fit_weight (str s) c r w a b n f = omega (arith, size-range c)
fit_weight (sign x) c r w a b n f = omega (arith, size-range c)
fit_weight (comment s) c r w a b n f = omega (arith, size-range c)
fit_weight newline c r w a b n f = omega (arith, size-range c)
fit_weight unterminated_string c r w a b n f = omega (arith, size-range c)
fit_weight unterminated_quote c r w a b n f = omega (arith, size-range c)

emit_weigh : (s : Step) (c o : ℕ) (r : List ℕ) (f : ℕ → List (Token Span)) → Fits (c ∷ r) s → ((n : ℕ) → weigh (f n) + sizes (take n r) ≤ suc (sizes r))
    → weigh (emit o s f) ≤ suc (size c + sizes r)
unfolding emit
emit_weigh gap c o r f h e = omega (arith, e 0)
emit_weigh (tok t w a b n) c o r f h e = omega (arith, e n, fit_weight t c r w a b n h)

from_weigh : (k o : ℕ) (l : List ℕ) → weigh (tokens_from k o l) + sizes (take k l) ≤ suc (sizes l)
unfolding tokens_from sizes weight
from_weigh zero o [] = omega arith
from_weigh (suc k) o [] = omega arith
from_weigh (suc k) o (c ∷ r) = omega (arith, from_weigh k (o + size c) r)
from_weigh zero o (c ∷ r) = omega (arith, emit_weigh (step c r) c o r (λ n. tokens_from n (o + size c) r) (step_fits c r) (λ n. from_weigh n (o + size c) r))

-- the line feed of no length at the end weighs one
pub tokens_weigh : (cs : List ℕ) → weigh (tokens cs) ≤ suc (sizes cs)
unfolding tokens sizes
tokens_weigh cs = omega (arith, from_weigh 0 0 cs)
