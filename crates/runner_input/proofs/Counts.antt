-- The characters of a value counted: those counted before a place and those of what is left are those of the whole.
use mathlib.Core.Path.{◌≡◌, refl, sym, ap, ◌∙◌}
use Prim.Native.Nat.{ℕ, suc, ◌+◌, ◌-◌, ◌≤◌, ◌<◌}
use native.Mathlib.Omega.{arith}
use native.Mathlib.Nat.{add-zero}
use mathlib.Core.Bool.{Bool, true, false}
use mathlib.Core.List.{List, [], ◌∷◌}
use lib.ListN.{length, take, drop}
use Rattle.std.specs.Prelude.{Option, Some, None}
use Rattle.chars.specs.Utf8.{decode, front}
use Rattle.chars.specs.Decoded.{decoded_at}
use Rattle.chars.proofs.Laws.{char_decode, char_lt, char_le, none_decode}
use Rattle.lexer.specs.Tokens.{Span, Inside, closed, unclosed, put, pass, unescape}
use Rattle.language.specs.Agreement.{characters_at, string_at}
use Rattle.runner_input.specs.Given as G
use Rattle.runner_input.specs.Given.{waits, given}
use Rattle.runner_input.proofs.Given.{waiting, given_waiting}
use Rattle.runner_input.proofs.Values.{puts, rest, rest_ends, rest_breaks, rest_goes, rest_none, rest_waits}

-- ---- how long a value is

-- behind n characters; no string has none
unfoldable pub length_of : ℕ → Inside → ℕ
length_of n (closed v k) = n + length v
length_of n unclosed = 0

length_pass : (n : ℕ) (i : Inside) → length_of n (pass i) ≡ length_of n i
unfolding pass length_of
length_pass n (closed v k) = refl
length_pass n unclosed = refl

length_put : (n c : ℕ) (i : Inside) → length_of n (put c i) ≡ length_of (n + 1) i
unfolding put length_of
length_put n c (closed v k) = omega arith
length_put n c unclosed = refl

length_puts : (cs : List ℕ) (n : ℕ) (i : Inside) → length_of n (puts cs i) ≡ length_of (n + length cs) i
unfolding puts
length_puts [] n i = ap (λ m. length_of m i) (sym (add-zero n))
length_puts (c ∷ cs) n i =
    let e : n + 1 + length cs ≡ n + suc (length cs) = omega arith in
    length_put n c (puts cs i) ∙ length_puts cs (n + 1) i ∙ ap (λ m. length_of m i) e

pub length_value : (cs : List ℕ) → length_of 0 (rest false cs) ≡ length (unescape cs)
unfolding rest length_of unescape
length_value cs = go (rest false cs) refl
  where
    go : (i : Inside) → rest false cs ≡ i → length_of 0 (rest false cs) ≡ length (unescape cs)
    go (closed v k) e = rw (e, unescape) (omega arith)
    go unclosed e = rw (e, unescape)

-- ---- the loop

-- n characters were counted before the place i, and what is left makes up the whole
pub record CountedSoFar (part : List ℕ) (n i : ℕ) (slash : Bool) : Type 0 where
  pub is : length_of n (rest slash (decode (drop i part))) ≡ length (unescape (decode part))
  pub room : n + waiting slash ≤ i

pub counts_start : (part : List ℕ) → CountedSoFar part 0 0 false
unfolding waiting
counts_start part = record { is = length_value (decode part); room = omega arith }

module _ (part : List ℕ) (i : ℕ) (d : Option (ℕ × ℕ)) (s : d ≡ decoded_at i (front (drop i part))) (slash : Bool) (n : ℕ)
    (h : CountedSoFar part n i slash) where
  -- in terms of what stands at the place
  at_place : (cs : List ℕ) → decode (drop i part) ≡ cs → (j : Inside) → rest slash cs ≡ j
      → length_of n j ≡ length (unescape (decode part))
  at_place cs e j f = sym (ap (λ l. length_of n (rest slash l)) e ∙ ap (length_of n) f) ∙ h.is

  module _ (c next : ℕ) (e : d ≡ Some (c, next)) where
    pub counts_ends : (t : Bool) → t ≡ G.ends slash c → t ≡ true → n ≡ length (unescape (decode part))
    unfolding length_of
    counts_ends t q f =
        let z : n + 0 ≡ n = omega arith in
        sym z ∙ at_place _ (char_decode part i d s c next e) (closed [] 1) (rest_ends slash c _ (sym q ∙ f))

    pub counts_breaks : c ≡ 10 → 0 ≡ length (unescape (decode part))
    unfolding length_of
    counts_breaks f = at_place _ (char_decode part i d s c next e) unclosed (rest_breaks slash c _ f)

    pub counts_fits : (m : ℕ) → m ≡ length (given slash c) → length part < 18446744073709551616 → n + m < 18446744073709551616
    counts_fits m q l =
        omega (arith, given_waiting slash c, h.room, char_lt part i d s c next e, char_le part i d s c next e)

    pub counts_on : (t : Bool) → t ≡ G.ends slash c → t ≡ false → (c ≡ 10 → ⊥) → (m : ℕ) → m ≡ length (given slash c)
        → (w : Bool) → w ≡ waits slash c → CountedSoFar part (n + m) next w
    counts_on t q f k m p w r = record {
      is =
          rw (p, r)
          (sym (length_puts (given slash c) n (pass (rest (waits slash c) (decode (drop next part)))) ∙ length_pass _ _)
          ∙ at_place _ (char_decode part i d s c next e) _ (rest_goes slash c _ (sym q ∙ f) k));
      room = rw r (omega (arith, given_waiting slash c, h.room, char_lt part i d s c next e));
    }

  pub counts_over : d ≡ None → slash ≡ false → n ≡ length (unescape (decode part))
  unfolding length_of
  counts_over e f =
      let z : n + 0 ≡ n = omega arith in
      sym z ∙ at_place [] (none_decode part i d s e) (closed [] 1) (ap (λ x. rest x []) f ∙ rest_none)

  pub counts_waits : d ≡ None → slash ≡ true → 0 ≡ length (unescape (decode part))
  unfolding length_of
  counts_waits e f = at_place [] (none_decode part i d s e) unclosed (ap (λ x. rest x []) f ∙ rest_waits)

-- ---- at a place of a text

pub length_at : (text part : List ℕ) (place : Span) (n : ℕ) → part ≡ take (place.end - place.start) (drop place.start text)
    → n ≡ length (unescape (decode part)) → n ≡ length (string_at text place)
unfolding string_at characters_at
length_at text part place n e f = f ∙ ap (λ l. length (unescape (decode l))) e
