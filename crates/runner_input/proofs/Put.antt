-- A value put into a row, a character at a time: what is left goes behind what was put, and together they are the whole.
use mathlib.Core.Path.{◌≡◌, refl, sym, ap, ◌∙◌}
use Prim.Native.Nat.{ℕ, ◌+◌, ◌-◌, ◌≤◌}
use native.Mathlib.Omega.{arith}
use native.Mathlib.Numerals.{add-one}
use mathlib.Core.Bool.{Bool, true, false, false≢true}
use mathlib.Core.List.{List, [], ◌∷◌, ◌++◌}
use lib.ListN.{length, take, drop, set}
use lib.Seq.{sets}
use borrow.Author.Tests.{ne_eqb}
use Rattle.std.specs.Prelude.{Option, Some, None}
use Rattle.chars.specs.Utf8.{decode, front}
use Rattle.chars.specs.Decoded.{decoded_at}
use Rattle.chars.proofs.Laws.{char_decode, none_decode}
use Rattle.lexer.specs.Tokens.{Span, escape, Inside, closed, unclosed, pass, unescape}
use Rattle.language.specs.Agreement.{characters_at, string_at}
use Rattle.language.proofs.Every.{by_test}
use Rattle.emit.proofs.Appends.{sets_out}
use Rattle.runner_input.specs.Given as G
use Rattle.runner_input.specs.Given.{waits, given, CodesPut}
use Rattle.runner_input.proofs.Values.{rest, rest_ends, rest_breaks, rest_goes, rest_none, rest_waits}
use Rattle.runner_input.proofs.Values.{value_of, is_closed, closed_pass, closed_puts, value_pass, value_puts, value_whole}
use Rattle.runner_input.proofs.Counts.{length_of, length_value}

-- ---- codes

module _ (row : List ℕ) (at c : ℕ) where
  pub put_full : length row ≤ at → CodesPut (c ∷ []) row at row at
  put_full h = record { put = λ l. sets_out l row at h ∙ sym (sets_out (c ∷ l) row at h) }

  pub put_stored : CodesPut (c ∷ []) row at (set row at c) (at + 1)
  put_stored = record { put = λ l. ap (λ n. sets (set row at c) n l) (add-one at) }

pub ruleset one = (put_full, put_stored)

module _ (slash : Bool) (c : ℕ) (row : List ℕ) (at : ℕ) where
  module _ (after : List ℕ) (next : ℕ) where
    pub given_escape : (o : Option ℕ) (v : ℕ) → slash ≡ true → o ≡ escape c → o ≡ Some v → CodesPut (v ∷ []) row at after next
        → CodesPut (given slash c) row at after next
    unfolding given
    given_escape o v t p q w = let x : escape c ≡ Some v = sym p ∙ q in rw (t, x, given) w

    pub given_both : (o : Option ℕ) (mid : List ℕ) (m : ℕ) → slash ≡ true → o ≡ escape c → o ≡ None
        → CodesPut (0x5C ∷ []) row at mid m → CodesPut (c ∷ []) mid m after next → CodesPut (given slash c) row at after next
    unfolding given
    given_both o mid m t p q u w =
        let x : escape c ≡ None = sym p ∙ q in
        rw (t, x, given) (record { put = λ l. w.put l ∙ u.put (c ∷ l) })

    pub given_one : slash ≡ false → (c ≡ 0x5C → ⊥) → CodesPut (c ∷ []) row at after next → CodesPut (given slash c) row at after next
    unfolding given
    given_one t e w = rw (t, ne_eqb c 0x5C e, given) w

  pub given_none : slash ≡ false → c ≡ 0x5C → CodesPut (given slash c) row at row at
  unfolding given
  given_none t e = rw (t, e) (record { put = λ l. refl })

pub ruleset given_put = (given_escape, given_both, given_one, given_none)

-- ---- the loop

-- a value that has a character is that of a string
some_closed : (i : Inside) (n : ℕ) → n ≡ length_of 0 i → (n ≡ 0 → ⊥) → is_closed i ≡ true
unfolding length_of is_closed
some_closed (closed v k) n e h = refl
some_closed unclosed n e h = absurd (h e)

no_members : (l : List ℕ) → length l ≡ 0 → l ≡ []
no_members [] e = refl
no_members (a ∷ l) e = absurd (omega arith)

-- what is left is closed, and goes behind what was put: together they are the whole value
pub record PutSoFar (part cells₀ : List ℕ) (at : ℕ) (cells : List ℕ) (to i : ℕ) (slash : Bool) : Type 0 where
  pub closes : is_closed (rest slash (decode (drop i part))) ≡ true
  pub goes : sets cells to (value_of (rest slash (decode (drop i part)))) ≡ sets cells₀ at (unescape (decode part))

module _ (part cells : List ℕ) (at n : ℕ) (e : n ≡ length (unescape (decode part))) where
  pub puts_nothing : n ≡ 0 → cells ≡ sets cells at (unescape (decode part))
  puts_nothing z = let v : unescape (decode part) ≡ [] = no_members (unescape (decode part)) (sym e ∙ z) in rw v

  pub goes_start : (n ≡ 0 → ⊥) → PutSoFar part cells at cells at 0 false
  goes_start h = record {
    closes = some_closed (rest false (decode part)) n (e ∙ sym (length_value (decode part))) h;
    goes = ap (sets cells at) (value_whole (decode part));
  }

module _ (part cells₀ : List ℕ) (at : ℕ) (cells : List ℕ) (to i : ℕ) (d : Option (ℕ × ℕ))
    (s : d ≡ decoded_at i (front (drop i part))) (slash : Bool) (h : PutSoFar part cells₀ at cells to i slash) where
  closes_at : (cs : List ℕ) → decode (drop i part) ≡ cs → (j : Inside) → rest slash cs ≡ j → is_closed j ≡ true
  closes_at cs e j f = sym (ap (λ l. is_closed (rest slash l)) e ∙ ap is_closed f) ∙ h.closes

  goes_at : (cs : List ℕ) → decode (drop i part) ≡ cs → (j : Inside) → rest slash cs ≡ j
      → sets cells to (value_of j) ≡ sets cells₀ at (unescape (decode part))
  goes_at cs e j f =
      sym (ap (λ l. sets cells to (value_of (rest slash l))) e ∙ ap (λ x. sets cells to (value_of x)) f) ∙ h.goes

  module _ (c next : ℕ) (e : d ≡ Some (c, next)) where
    pub goes_ends : (t : Bool) → t ≡ G.ends slash c → t ≡ true → cells ≡ sets cells₀ at (unescape (decode part))
    unfolding value_of
    goes_ends t q f = goes_at _ (char_decode part i d s c next e) (closed [] 1) (rest_ends slash c _ (sym q ∙ f))

    no_break : c ≡ 10 → ⊥
    unfolding is_closed
    no_break f = false≢true (closes_at _ (char_decode part i d s c next e) unclosed (rest_breaks slash c _ f))

    pub goes_on : (t : Bool) → t ≡ G.ends slash c → t ≡ false → (after : List ℕ) (r : ℕ) → CodesPut (given slash c) cells to after r
        → (w : Bool) → w ≡ waits slash c → PutSoFar part cells₀ at after r next w
    goes_on t q f after r p w v =
        let x = rest (waits slash c) (decode (drop next part)) in
        let g = rest_goes slash c (decode (drop next part)) (sym q ∙ f) no_break in
        let k : is_closed (pass x) ≡ true =
        sym (closed_puts (given slash c) (pass x)) ∙ closes_at _ (char_decode part i d s c next e) _ g in
        rw v
        (record {
          closes = sym (closed_pass x) ∙ k;
          goes =
              p.put (value_of x)
              ∙ ap (λ l. sets cells to (given slash c ++ l)) (sym (value_pass x))
              ∙ ap (sets cells to) (sym (value_puts (given slash c) (pass x) k))
              ∙ goes_at _ (char_decode part i d s c next e) _ g;
        })

  pub goes_over : d ≡ None → cells ≡ sets cells₀ at (unescape (decode part))
  unfolding value_of is_closed
  goes_over n =
      let e = none_decode part i d s n in
      by_test slash
      (λ f. absurd (false≢true (closes_at [] e unclosed (ap (λ x. rest x []) f ∙ rest_waits))))
      (λ f. goes_at [] e (closed [] 1) (ap (λ x. rest x []) f ∙ rest_none))

-- ---- at a place of a text

pub put_at : (text part : List ℕ) (place : Span) (cells last : List ℕ) (at : ℕ)
    → part ≡ take (place.end - place.start) (drop place.start text)
    → last ≡ sets cells at (unescape (decode part)) → last ≡ sets cells at (string_at text place)
unfolding string_at characters_at
put_at text part place cells last at e f = f ∙ ap (λ l. sets cells at (unescape (decode l))) e
