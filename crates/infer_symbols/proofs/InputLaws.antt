-- Laws of the characters of the input's value.
use mathlib.Core.Path.{◌≡◌, refl, sym, ap, ◌∙◌}
use mathlib.Core.Bool.{Bool, true, false}
use mathlib.Core.List.{List, [], ◌∷◌, ◌++◌}
use Prim.Native.Nat.{ℕ, ◌+◌, ◌-◌, ◌≤◌, ◌<◌}
use native.Mathlib.Omega.{arith}
use borrow.Author.Tests.{eq-eqb, ne_eqb, lt-ltb, le-ltb}
use lib.Dec.{eqb}
use lib.ListN.{length, drop}
use Rattle.chars.specs.Utf8.{front, decode}
use Rattle.chars.specs.Decoded.{decoded_at}
use Rattle.std.specs.Prelude.{Option as Perhaps, Some, None}
use Rattle.chars.proofs.Laws.{char_decode, char_lt, char_falls, none_decode}
use Rattle.lexer.specs.Places.{rest}
use Rattle.language.specs.Infer.{member}
use Rattle.tokens.specs.declared.Token.{Token}
use Rattle.parser.specs.Row.{peek}
use Rattle.infer_symbols.specs.Codes.{noted_all}
use Rattle.infer_symbols.specs.Input.{ends_at, escape_of, spelled_as, escapes_next, spelled, input_of}
use Rattle.infer_symbols.specs.Notes.{listed, Sound, Notes}
use Rattle.infer_symbols.specs.declared.codes.Codes.{Codes}
use Rattle.infer_symbols.proofs.CodesMean.{noted_there}
use Rattle.infer_symbols.proofs.Noting.{notes_none, notes_as, Left, left_on, left_end}

-- ---- tests of one character
module _ (e : Bool) (c : ℕ) where
  pub ends_quote : (c ≡ 10 → ⊥) → e ≡ false → eqb c 0x22 ≡ ends_at e c
  unfolding ends_at
  ends_quote h g = rw (ne_eqb c 10 h, g)

  pub next-plain : e ≡ false → eqb c 0x5C ≡ escapes_next e c
  unfolding escapes_next
  next-plain h = rw h

pub spelled_escape : {e : Bool} (c : ℕ) {l : List ℕ} {s r : Codes} → e ≡ true → escape_of c ≡ l → Notes l s r → Notes (spelled_as e c) s r
unfolding spelled_as
spelled_escape c h g u = rw (h, g) u

spelled-plain : (e : Bool) (c : ℕ) → e ≡ false → (c ≡ 0x5C → ⊥) → spelled_as e c ≡ c ∷ []
unfolding spelled_as
spelled-plain e c h g = rw (h, ne_eqb c 0x5C g)

pub spelled_itself : (e : Bool) (c : ℕ) {s r : Codes} → e ≡ false → (c ≡ 0x5C → ⊥) → Notes (c ∷ []) s r → Notes (spelled_as e c) s r
spelled_itself e c h g u = notes_as (spelled-plain e c h g) u

pub spelled_backslash : (e : Bool) (c : ℕ) (s : Codes) → e ≡ false → c ≡ 0x5C → Notes (spelled_as e c) s s
unfolding spelled_as
spelled_backslash e c s h g = rw (h, eq-eqb c 0x5C g) (notes_none s)

-- ---- the string: the walk has come to the place i
module _ (t : List ℕ) (i : ℕ) (e : Bool) (now : Codes) (all : List ℕ) (first : Codes) (g : Left (spelled e (decode (drop i t))) now all first)
    (r : Perhaps (ℕ × ℕ)) (s : r ≡ decoded_at i (front (drop i t))) where
  pub spell_none : r ≡ None → Notes all first now
  unfolding spelled
  spell_none q = left_end (ap (spelled e) (none_decode t i r s q)) g

  module _ (c k : ℕ) (is : r ≡ Some (c, k)) (x : Bool) (test : x ≡ ends_at e c) where
    pub spell_ends : x ≡ true → Notes all first now
    unfolding spelled
    spell_ends q = left_end (ap (spelled e) (char_decode t i r s c k is) ∙ rw (sym test ∙ q, spelled)) g

    pub spell_on : x ≡ false → {then : Codes} → Notes (spelled_as e c) now then → (e' : Bool) → e' ≡ escapes_next e c → Left (spelled e' (decode (drop k t))) then all first
    unfolding spelled
    spell_on q u e' f = rw f (left_on {one = spelled_as e c} (ap (spelled e) (char_decode t i r s c k is) ∙ rw (sym test ∙ q, spelled)) g u)

-- ---- characters that are noted already add nothing
module _ (c : ℕ) (high : 0x80 ≤ c) where
  goes_on : ends_at false c ≡ false
  goes_on = sym (ends_quote false c (λ q. omega (arith, q, high)) refl) ∙ ne_eqb c 0x22 (λ q. omega (arith, q, high))

  plain-next : escapes_next false c ≡ false
  plain-next = sym (next-plain false c refl) ∙ ne_eqb c 0x5C (λ q. omega (arith, q, high))

  itself : spelled_as false c ≡ c ∷ []
  itself = spelled-plain false c refl (λ q. omega (arith, q, high))

  spelled_high : (l : List ℕ) → spelled false (c ∷ l) ≡ c ∷ spelled false l
  unfolding spelled
  spelled_high l =
      let e : spelled false (c ∷ l) ≡ spelled_as false c ++ spelled (escapes_next false c) l = rw (goes_on, spelled) in
      e ∙ ap (λ (xs : List ℕ). xs ++ spelled (escapes_next false c) l) itself ∙ ap (λ (z : Bool). c ∷ spelled z l) plain-next

noted-passed : (cs xs : List ℕ) (c : ℕ) → member eqb cs c ≡ true → noted_all cs (c ∷ xs) ≡ noted_all cs xs
unfolding noted_all
noted-passed cs xs c e = ap (λ (l : List ℕ). noted_all l xs) (noted_there cs c e)

-- the same is still to be noted from the place i on as from the place a on
pub record Passed (t : List ℕ) (e : Bool) (c : Codes) (a i : ℕ) : Type 0 where
  pub on : a ≤ i
  pub same : Sound c → noted_all (listed c) (spelled e (decode (drop i t))) ≡ noted_all (listed c) (spelled e (decode (drop a t)))

pub passed_on : (t : List ℕ) (s : Codes) (a i : ℕ) → Passed t false s a i → (r : Perhaps (ℕ × ℕ)) → r ≡ decoded_at i (front (drop i t)) → (c k : ℕ) → r ≡ Some (c, k) → 0x80 ≤ c
    → (Sound s → (c ≡ 0 → ⊥) → member eqb (listed s) c ≡ true) → Passed t false s a k
passed_on t s a i p r e c k is high known = record {
  on = omega (arith, p.on, char_lt t i r e c k is);
  same = λ h.
      sym (ap (λ (l : List ℕ). noted_all (listed s) (spelled false l)) (char_decode t i r e c k is) ∙ ap (noted_all (listed s)) (spelled_high c high (decode (drop k t)))
      ∙ noted-passed (listed s) (spelled false (decode (drop k t))) c (known h (λ z. omega arith))) ∙ p.same h;
}

pub from_falls : (t : List ℕ) (i j : ℕ) → i ≤ j → (r : Perhaps (ℕ × ℕ)) → r ≡ decoded_at j (front (drop j t)) → (c k : ℕ) → r ≡ Some (c, k) → length t - k < length t - i
from_falls t i j h r s c k is = omega (arith, h, char_falls t j r s c k is)

-- ---- the input
pub input_none : (text : List ℕ) (ts : List Token) (d : ℕ) (s : Codes) → length ts ≤ d → Notes (input_of text ts d) s s
unfolding input_of
input_none text ts d s h = rw (le-ltb d (length ts) h) (notes_none s)

pub input_string : (text : List ℕ) (ts : List Token) (d : ℕ) {s r : Codes} → d < length ts → (t : Token) → t ≡ peek ts (d + 1) → Notes (spelled false (rest text (t.start + t.value))) s r → Notes (input_of text ts d) s r
unfolding input_of
input_string text ts d h t e u = rw (lt-ltb d (length ts) h, ← e) u
