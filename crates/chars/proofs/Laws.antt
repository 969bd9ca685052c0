-- What the layers above need of the characters of a text: `decode` at a place, a character at a time.
use mathlib.Core.Path.{◌≡◌, refl, sym, ap, ◌∙◌}
use Prim.Native.Nat.{ℕ, zero, suc, ◌+◌, ◌-◌, ◌*◌, ◌≤◌, ◌<◌}
use native.Mathlib.Omega.{arith}
use native.Mathlib.Nat.{add-zero}
use mathlib.Core.Bool.{true, ◌&&◌}
use lib.Dec.{ltb, leb, eqb}
use mathlib.Core.List.{List, [], ◌∷◌, ◌++◌}
use lib.ListN.{length, get_or, drop, length-drop, drop_of_length-le}
use lib.Seq.{drop-drop}
use Rattle.chars.specs.Utf8.{scalar, size, sizes, Front, one, bad, none, tail_of, form, lead, front, points_on, points_from, decode}
use Rattle.chars.specs.Decoded.{decoded_at, NoneMeans}
use Rattle.std.specs.Prelude.{Option, Some, None}
use Rattle.chars.proofs.Tests.{split}
use Rattle.chars.proofs.Encoding.{size-range, front-scalar, front_in}

pub decode-nil : decode [] ≡ []
unfolding decode
decode-nil = refl

pub decode-end : (t : List ℕ) (i : ℕ) → length t ≤ i → decode (drop i t) ≡ []
decode-end t i h = rw (drop_of_length-le t h) decode-nil

-- to pass over k bytes is to decode what follows them
pub points_skip : (k : ℕ) (l : List ℕ) → points_from k l ≡ decode (drop k l)
unfolding decode
points_skip zero l = refl
points_skip (suc k) [] = refl
points_skip (suc k) (b ∷ r) = points_skip k r

-- a list behind its first byte
pub drop_past : (n b : ℕ) (r : List ℕ) → 1 ≤ n → drop (n - 1) r ≡ drop n (b ∷ r)
drop_past zero b r h = absurd (omega arith)
drop_past (suc n) b r h = let e : suc n - 1 ≡ n = omega arith in rw e

-- ---- by what a list begins with
pub decode-one : (l : List ℕ) (c : ℕ) → front l ≡ one c → decode l ≡ c ∷ decode (drop (size c) l)
unfolding decode
decode-one [] c e = absurd (omega (arith, front_in [] c e, size-range c))
decode-one (b ∷ r) c e =
    ap (λ (h : Front). points_on h (λ (k : ℕ). points_from k r)) e ∙
    ap (λ (m : List ℕ). c ∷ m) (points_skip (size c - 1) r ∙ ap decode (drop_past (size c) b r (size-range c).0))

pub decode_bad : (l : List ℕ) → front l ≡ bad → decode l ≡ []
unfolding decode
decode_bad [] e = refl
decode_bad (b ∷ r) e = ap (λ (h : Front). points_on h (λ (k : ℕ). points_from k r)) e

pub decode-none : (l : List ℕ) → front l ≡ none → decode l ≡ []
unfolding decode
decode-none [] e = refl
decode-none (b ∷ r) e = ap (λ (h : Front). points_on h (λ (k : ℕ). points_from k r)) e

-- ---- by the front at a place
module _ (t : List ℕ) (i c : ℕ) (e : front (drop i t) ≡ one c) where
  pub front-decode : decode (drop i t) ≡ c ∷ decode (drop (i + size c) t)
  front-decode = decode-one (drop i t) c e ∙ simp drop-drop

  pub front-le : i + size c ≤ length t
  front-le = omega (arith, front_in (drop i t) c e, length-drop i t, size-range c)

-- ---- by the answer of `char_at`
pub some_pair : (a b c d : ℕ) → ◌≡◌ {A = Option (ℕ × ℕ)} (Some (a, b)) (Some (c, d)) → (a ≡ c) × (b ≡ d)
some_pair a b c d e =
    let fst : Option (ℕ × ℕ) → ℕ = λ o. elim o [ Some p ↦ p.0 | None ↦ 0 ] in
    let snd : Option (ℕ × ℕ) → ℕ = λ o. elim o [ Some p ↦ p.1 | None ↦ 0 ] in
    (ap fst e, ap snd e)

decoded_char : (h : Front) (i c n : ℕ) → decoded_at i h ≡ Some (c, n) → (h ≡ one c) × (n ≡ i + size c)
unfolding decoded_at
decoded_char (one x) i c n e = let p = some_pair c n x (i + size x) (sym e) in (ap one (sym p.0), p.1 ∙ ap (λ (y : ℕ). i + size y) (sym p.0))
decoded_char bad i c n e = cc
decoded_char none i c n e = cc

module _ (t : List ℕ) (i : ℕ) (r : Option (ℕ × ℕ)) (s : r ≡ decoded_at i (front (drop i t))) where
  module _ (c n : ℕ) (e : r ≡ Some (c, n)) where
    char_front : front (drop i t) ≡ one c
    char_front = (decoded_char (front (drop i t)) i c n (sym s ∙ e)).0

    -- the place after the character
    pub char_next : n ≡ i + size c
    char_next = (decoded_char (front (drop i t)) i c n (sym s ∙ e)).1

    pub char_decode : decode (drop i t) ≡ c ∷ decode (drop n t)
    char_decode = rw char_next (front-decode t i c char_front)

    pub char_scalar : scalar c ≡ true
    char_scalar = front-scalar (drop i t) c char_front

    pub char_lt : i < n
    char_lt = omega (arith, char_next, size-range c)

    pub char_le : n ≤ length t
    char_le = omega (arith, char_next, front-le t i c char_front)

    pub char_here : i < length t
    char_here = omega (arith, char_lt, char_le)

    -- the measure of a loop that goes from a character to the next
    pub char_falls : length t - n < length t - i
    char_falls = omega (arith, char_lt, char_le)

  -- no character stands there: neither a code point nor a byte is left, or the bytes are none
  pub none_decode : r ≡ None → decode (drop i t) ≡ []
  unfolding decoded_at
  none_decode e = go (front (drop i t)) refl (sym s ∙ e)
    where
      go : (h : Front) → front (drop i t) ≡ h → decoded_at i h ≡ None → decode (drop i t) ≡ []
      go (one c) p q = cc
      go bad p q = decode_bad (drop i t) p
      go none p q = decode-none (drop i t) p

-- ---- by the code points at a place
module _ (t : List ℕ) (i c : ℕ) (cs : List ℕ) where
  decoded_front : (h : Front) → front (drop i t) ≡ h → decode (drop i t) ≡ c ∷ cs → front (drop i t) ≡ one c
  decoded_front (one x) e p =
      let q = front-decode t i x e in
      let w : x ≡ c = cc in
      e ∙ ap one w
  decoded_front bad e p = let q = decode_bad (drop i t) e in cc
  decoded_front none e p = let q = decode-none (drop i t) e in cc

  module _ (p : decode (drop i t) ≡ c ∷ cs) where
    points_front : front (drop i t) ≡ one c
    points_front = decoded_front (front (drop i t)) refl p

    pub points_next : decode (drop (i + size c) t) ≡ cs
    points_next = let q = front-decode t i c points_front in cc

    pub points_le : i + size c ≤ length t
    points_le = front-le t i c points_front

    pub points_scalar : scalar c ≡ true
    points_scalar = front-scalar (drop i t) c points_front

-- ---- by several code points at a place
pub points_rest : (cs ds t : List ℕ) (i : ℕ) → decode (drop i t) ≡ cs ++ ds → decode (drop (i + sizes cs) t) ≡ ds
unfolding sizes
points_rest [] ds t i p = rw (add-zero i) p
points_rest (c ∷ cs) ds t i p =
    let e : i + (size c + sizes cs) ≡ i + size c + sizes cs = omega arith in
    rw e (points_rest cs ds t (i + size c) (points_next t i c (cs ++ ds) p))

-- ---- where `char_at` answers None, the end and a place where no character stands are told apart by the length
module _ where
  Something : Front → Type 0
  Something h = h ≡ none → ⊥

  form_something : (n c : ℕ) → Something (form n c)
  unfolding form Something
  form_something n c = split Something (scalar c && eqb (size c) n) (λ e p. cc) (λ e p. cc)

  lead_something : (a b c d : ℕ) → Something (lead a b c d)
  unfolding lead Something
  lead_something a b c d =
      split Something (ltb a 0x80) (λ e p. cc)
      (λ e. split Something (ltb a 0xC0) (λ e p. cc)
      (λ e. split Something (leb 64 b) (λ e p. cc)
      (λ e. split Something (ltb a 0xE0) (λ e. form_something 2 ((a - 0xC0) * 64 + b))
      (λ e. split Something (leb 64 c) (λ e p. cc)
      (λ e. split Something (ltb a 0xF0) (λ e. form_something 3 ((a - 0xE0) * 4096 + b * 64 + c))
      (λ e. split Something (leb 64 d) (λ e p. cc) (λ e. form_something 4 ((a - 0xF0) * 262144 + b * 4096 + c * 64 + d))))))))

  pub front-end : (l : List ℕ) → front l ≡ none → l ≡ []
  unfolding front Something
  front-end [] e = refl
  front-end (a ∷ r) e = absurd (lead_something a (tail_of (get_or r 0 0)) (tail_of (get_or r 1 0)) (tail_of (get_or r 2 0)) e)

-- ---- what None says
module _ (t : List ℕ) (i : ℕ) where
  bad_inside : (h : Front) → front (drop i t) ≡ h → None ≡ decoded_at i h → (length (drop i t) ≡ 0 → ⊥) → front (drop i t) ≡ bad
  unfolding decoded_at
  bad_inside (one c) p q f = cc
  bad_inside bad p q f = p
  bad_inside none p q f = absurd (f (ap length (front-end (drop i t) p)))

  pub none_means : (r : Option (ℕ × ℕ)) → r ≡ decoded_at i (front (drop i t)) → NoneMeans t i r
  unfolding front
  none_means None s =
      (λ h. bad_inside (front (drop i t)) refl s (λ e. omega (arith, e, h, length-drop i t)), λ h. rw (drop_of_length-le t h) refl)
  none_means (Some x) s = tt
