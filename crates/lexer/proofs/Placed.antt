-- The characters at a token's place are those of the token: code that keeps places keeps the values.
use mathlib.Core.Path.{◌≡◌, refl, sym, ap, subst, ◌∙◌}
use Prim.Native.Nat.{ℕ, zero, suc, ◌+◌, ◌-◌, ◌≤◌, ◌<◌}
use native.Mathlib.Omega.{arith}
use mathlib.Core.Bool.{true}
use mathlib.Core.List.{List, [], ◌∷◌, ◌++◌}
use lib.ListN.{length, get_or, take, drop, take-append-drop}
use lib.Seq.{take-add}
use Rattle.chars.specs.Utf8.{size, sizes, decode, encode}
use Rattle.chars.specs.Decoded.{scalars}
use Rattle.chars.proofs.Laws.{points_next, points_le}
use Rattle.chars.proofs.Theorems.{sizes-append, decode-encode, part_bytes, part-scalars}
use Rattle.lexer.specs.Text.{same}
use Rattle.lexer.specs.Tokens.{TokenKind, word, number, quoted, str, sign, comment, newline, unterminated_string, unterminated_quote, Span, span, Token, token_at, Step, gap, tok, step, emit, tokens_from, tokens}
use Rattle.lexer.specs.Places.{part, chars_at}
use Rattle.lexer.proofs.Keywords.{part-inside}
use Rattle.lexer.proofs.Pieces.{jump, jump_le, same-encode}
use Rattle.lexer.proofs.Steps.{Says, Good, Sides, Fit, Fits, step_fits}
use Rattle.lexer.proofs.Writes.{sizes-take}

-- ---- the characters from the i-th to the j-th of those that stand at the place o
module _ (t : List ℕ) (o : ℕ) (cs : List ℕ) (p : decode (drop o t) ≡ cs) (i j : ℕ) (h : i ≤ j) where
  abbrev middle : List ℕ
  middle = take (j - i) (drop i cs)

  split_sizes : sizes (take j cs) ≡ sizes (take i cs) + sizes middle
  split_sizes =
      let n : j ≡ i + (j - i) = omega arith in
      ap (λ (k : ℕ). sizes (take k cs)) n ∙ ap sizes (take-add i (j - i) cs) ∙ sizes-append (take i cs) (take (j - i) (drop i cs))

  rest_of : decode (drop (o + sizes (take i cs)) t) ≡ middle ++ drop (j - i) (drop i cs)
  rest_of = jump i t o cs p ∙ sym (take-append-drop (j - i) (drop i cs))

  between-scalars : scalars middle ≡ true
  between-scalars = part-scalars middle (drop (j - i) (drop i cs)) (drop (o + sizes (take i cs)) t) rest_of

  -- a place that starts and ends there
  module _ (a b : ℕ) (e : a ≡ o + sizes (take i cs)) (f : b ≡ o + sizes (take j cs)) where
    between-bytes : take (b - a) (drop a t) ≡ encode middle
    between-bytes =
        let n : b - a ≡ sizes middle = omega (arith, split_sizes) in
        ap (λ (k : ℕ). take k (drop a t)) n ∙ ap (λ (k : ℕ). take (sizes middle) (drop k t)) e
        ∙ part_bytes middle (drop (j - i) (drop i cs)) t (o + sizes (take i cs)) rest_of

    pub between_chars : chars_at t (span a b) ≡ take (j - i) (drop i cs)
    unfolding chars_at
    between_chars = ap decode between-bytes ∙ decode-encode middle between-scalars

    pub between-part : o ≤ length t → part t a b ≡ encode (take (j - i) (drop i cs))
    between-part l =
        sym (part-inside t a b (omega (arith, sizes-take i j cs h)) (omega (arith, jump_le j t o cs p l))) ∙ between-bytes

-- ---- a token in its place
-- the place of a token's text, in its own place
abbrev pub Shape : TokenKind → Span → Span → Type 0
Shape (str v) p q = (q.start ≡ p.start + 1) × (p.end ≡ q.end + 1)
Shape (comment s) p q = q.end ≡ p.end
Shape (word w) p q = q ≡ p
Shape (number w) p q = q ≡ p
Shape (quoted c) p q = q ≡ p
Shape (sign c) p q = q ≡ p
Shape newline p q = q ≡ p
Shape unterminated_string p q = q ≡ p
Shape unterminated_quote p q = q ≡ p

-- the token x of the text t
pub record Placed (t : List ℕ) (x : Token Span) : Type 0 where
  pub starts : x.place.start ≤ x.inner.start
  pub order : x.inner.start ≤ x.inner.end
  pub ends : x.inner.end ≤ x.place.end
  pub inside : x.place.end ≤ length t
  pub shape : Shape x.kind x.place x.inner
  pub good : Good x.kind
  pub says : Says x.kind (chars_at t x.inner)
  pub scalar : scalars (chars_at t x.inner) ≡ true
  pub bytes : part t x.inner.start x.inner.end ≡ encode (chars_at t x.inner)

plain : (o w a b : ℕ) → (a ≡ 0) × (b ≡ 0) → ◌≡◌ {A = Span} (span (o + a) (o + w - b)) (span o (o + w))
plain o w a b s =
    let p : o + a ≡ o = omega (arith, s.0) in
    let q : o + w - b ≡ o + w = omega (arith, s.1) in
    λ i. record { start = p i; end = q i }

shaped : (k : TokenKind) (o w a b : ℕ) → Sides k a b → b ≤ w → Shape k (span o (o + w)) (span (o + a) (o + w - b))
shaped (str v) o w a b s h = (omega (arith, s.0), omega (arith, s.1))
shaped (comment c) o w a b s h = omega arith
shaped (word c) o w a b s h = plain o w a b s
shaped (number c) o w a b s h = plain o w a b s
shaped (quoted c) o w a b s h = plain o w a b s
shaped (sign c) o w a b s h = plain o w a b s
shaped newline o w a b s h = plain o w a b s
shaped unterminated_string o w a b s h = plain o w a b s
shaped unterminated_quote o w a b s h = plain o w a b s

fit_placed : (t : List ℕ) (o : ℕ) (cs : List ℕ) (k : TokenKind) (w a b n : ℕ) → decode (drop o t) ≡ cs → o ≤ length t → Fit k cs w a b n → Placed t (token_at o k w a b)
fit_placed t o cs k w a b n p l f =
    let i = f.first in
    let j = f.stop in
    let h = f.order in
    let e : o + a ≡ o + sizes (take i cs) = ap (λ (z : ℕ). o + z) f.before in
    let g : o + w - b ≡ o + sizes (take j cs) = omega (arith, f.behind, f.short) in
    let c = between_chars t o cs p i j h (o + a) (o + w - b) e g in
    record {
      starts = omega arith;
      order = omega (arith, sizes-take i j cs h);
      ends = omega arith;
      inside = omega (arith, f.width, jump_le f.last t o cs p l);
      shape = shaped k o w a b f.sides f.short;
      good = f.good;
      says = subst (Says k) (sym c) f.says;
      scalar = ap scalars c ∙ between-scalars t o cs p i j h;
      bytes = between-part t o cs p i j h (o + a) (o + w - b) e g l ∙ ap encode (sym c);
    }

-- the line feed of no length at the text's end
last_placed : (t : List ℕ) (o : ℕ) → decode (drop o t) ≡ [] → o ≤ length t → Placed t (record { kind = newline; place = span o o; inner = span o o })
unfolding sizes scalars
last_placed t o p l =
    let e : o ≡ o + 0 = omega arith in
    let c = between_chars t o [] p 0 0 (omega arith) o o e e in
    record {
      starts = omega arith;
      order = omega arith;
      ends = omega arith;
      inside = l;
      shape = refl;
      good = tt;
      says = tt;
      scalar = ap scalars c;
      bytes = between-part t o [] p 0 0 (omega arith) o o e e l ∙ ap encode (sym c);
    }

-- ---- all tokens of a text
abbrev pub All : (Token Span → Type 0) → List (Token Span) → Type 0
All P [] = Unit {0}
All P (x ∷ xs) = P x × All P xs

pub all-at : (P : Token Span → Type 0) (xs : List (Token Span)) (i : ℕ) (d : Token Span) → All P xs → i < length xs → P (get_or xs i d)
all-at P [] i d a h = absurd (omega arith)
all-at P (x ∷ xs) zero d a h = a.0
all-at P (x ∷ xs) (suc i) d a h = all-at P xs i d a.1 (omega arith)

emit_placed : (s : Step) (t : List ℕ) (o : ℕ) (cs : List ℕ) (next : ℕ → List (Token Span)) → decode (drop o t) ≡ cs → o ≤ length t → Fits cs s
    → ((n : ℕ) → All (Placed t) (next n)) → All (Placed t) (emit o s next)
unfolding emit
emit_placed gap t o cs next p l f a = a 0
emit_placed (tok k w x y n) t o cs next p l f a = (fit_placed t o cs k w x y n p l f, a n)

placed_from : (cs : List ℕ) (k o : ℕ) (t : List ℕ) → decode (drop o t) ≡ cs → o ≤ length t → All (Placed t) (tokens_from k o cs)
unfolding tokens_from
placed_from [] k o t p l = (last_placed t o p l, tt)
placed_from (c ∷ r) (suc k) o t p l = placed_from r k (o + size c) t (points_next t o c r p) (points_le t o c r p)
placed_from (c ∷ r) zero o t p l =
    emit_placed (step c r) t o (c ∷ r) _ p l (step_fits c r) (λ (n : ℕ). placed_from r n (o + size c) t (points_next t o c r p) (points_le t o c r p))

-- every token of a text stands in its place: words, numbers, quoted characters, signs and comments are the characters
-- there, strings with their escapes undone
pub placed : (t : List ℕ) → All (Placed t) (tokens (decode t))
unfolding tokens
placed t = placed_from (decode t) 0 0 t refl (omega arith)

-- ---- names: equal bytes are equal characters
module _ (t : List ℕ) (x y : Token Span) (p : Placed t x) (q : Placed t y) where
  pub same_names : same (part t x.inner.start x.inner.end) (part t y.inner.start y.inner.end) ≡ same (chars_at t x.inner) (chars_at t y.inner)
  same_names = rw (p.bytes, q.bytes) (same-encode (chars_at t x.inner) (chars_at t y.inner) p.scalar q.scalar)
