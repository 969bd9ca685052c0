-- The product of a rule's read sets, counted token by token and cut off above the limit, is the language's.
use mathlib.Core.Path.{◌≡◌, refl, sym, ap, ◌∙◌}
use mathlib.Core.Bool.{Bool, true, false, cond}
use mathlib.Core.List.{List, [], ◌∷◌, map}
use Rattle.std.specs.Prelude.{Option, None, Some}
use Prim.Native.Nat.{ℕ, zero, suc, ◌+◌, ◌*◌, ◌≤◌, min}
use native.Mathlib.Omega.{arith}
use native.Mathlib.Nat.{mul-le-mul, mul_assoc, mul-zero, mul-one, min-eq_left, min-eq_right, min-le_right}
use borrow.Author.Tests.{leb-true, leb-false}
use lib.Dec.{eqb, leb}
use lib.ListN.{length}
use Rattle.diag.proofs.Cases.{by_test_lem}
use Rattle.diag.specs.declared.Span.{Span as Place}
use Rattle.lexer.specs.Tokens.{Token as Lexed}
use Rattle.tokens.specs.declared.Token.{Token}
use Rattle.parser.specs.Views.{is_kind, is_symbol}
use Rattle.parser.specs.Meaning.{token_of, Sound, ReadPart, opens, closes, passes, reads, read_part, joins, outside, inside, read_sets}
use Rattle.parser.proofs.Views.{is_some, names_l_brace, names_r_brace, sees_sign, sees_symbol}
use Rattle.language.specs.Machine.{Located}
use Rattle.language.specs.Parser.{is_sign}
use Rattle.language.specs.Lines.{RawSymbol, symbol_in}
use Rattle.language.specs.Assembly as A
use Rattle.assembler.specs.declared.sets.Sets.{Sets}
use Rattle.assembler.specs.Rules.{counted, combinations_from, combinations}
use Rattle.assembler.proofs.Braces.{balanced}

-- ---- numbers cut off
-- cutting a factor does not change the cut of the product
cut_product : (a c : ℕ) → min (min a 262145 * c) 262145 ≡ min (a * c) 262145
cut_product a zero = ap (λ (n : ℕ). min n 262145) (mul-zero (min a 262145) ∙ sym (mul-zero a))
cut_product a (suc c) =
    by_test_lem (leb a 262145) (λ y. ap (λ (n : ℕ). min (n * suc c) 262145) (min-eq_left {n = a} {m = 262145} (leb-true a 262145 y)))
    (λ n.
    let h : 262145 ≤ a = (let z = leb-false a 262145 n in omega arith) in
    let one : 1 ≤ suc c = omega arith in
    let big : 262145 * 1 ≤ a * suc c = mul-le-mul h one in
    let low : min a 262145 ≡ 262145 = min-eq_right {n = 262145} {m = a} h in
    ap (λ (n : ℕ). min (n * suc c) 262145) low ∙ min-eq_right {n = 262145} {m = 262145 * suc c} (omega arith) ∙ sym (min-eq_right {n = 262145} {m = a * suc c} (omega arith)))

-- ---- what a token is, by its words
abbrev pub AllSound : List (Lexed Place) → Type 0
AllSound [] = Unit {0}
AllSound (t ∷ ts) = Sound t × AllSound ts

-- what a token is where read entries are due, as the two say it
abbrev pub Reads : ReadPart → Token → Type 0
Reads opens w = eqb w.kind 6 ≡ true
Reads closes w = (eqb w.kind 6 ≡ false) × (eqb w.kind 7 ≡ true)
Reads (reads s) w = (eqb w.kind 6 ≡ false) × (eqb w.kind 7 ≡ false) × (is_symbol w ≡ true)
Reads passes w = (eqb w.kind 6 ≡ false) × (eqb w.kind 7 ≡ false) × (is_symbol w ≡ false)

pub read_by : (t : Lexed Place) → Sound t → Reads (read_part t.kind) (token_of t)
unfolding read_part is_kind
read_by t s =
    go (is_sign 0x7B t.kind) (is_sign 0x7D t.kind) (symbol_in t.kind) (sees_sign 0x7B 6 names_l_brace t.kind t.place t.inner s)
    (sees_sign 0x7D 7 names_r_brace t.kind t.place t.inner s) (sees_symbol t.kind t.place t.inner s)
  where
    go : (a b : Option Bool) (c : Option RawSymbol) → is_kind 6 (token_of t) ≡ is_some a → is_kind 7 (token_of t) ≡ is_some b → is_symbol (token_of t) ≡ is_some c
        → Reads (elim a [ Some _ ↦ opens | None ↦ elim b [ Some _ ↦ closes | None ↦ elim c [ Some s ↦ reads s | None ↦ passes ] ] ]) (token_of t)
    go (Some x) b c p q r = p
    go None (Some x) c p q r = (p, q)
    go None None (Some s) p q r = (p, q, r)
    go None None None p q r = (p, q, r)

-- ---- one token more, of the count, of the braces and of the language's sets
abbrev sets : ℕ → ℕ → Sets
sets p s = record { product = p; size = s }

abbrev counted_by : ReadPart → ℕ → ℕ → Sets
counted_by opens p s = sets p 0
counted_by closes p s = sets (min (p * s) 262145) s
counted_by (reads x) p s = sets p (s + 1)
counted_by passes p s = sets p s

counted_by_lem : (r : ReadPart) (w : Token) (p s : ℕ) → Reads r w → counted (sets p s) w ≡ counted_by r p s
unfolding counted
counted_by_lem opens w p s h = rw h
counted_by_lem closes w p s h = rw (h.0, h.1)
counted_by_lem (reads x) w p s h = rw (h.0, h.1, h.2)
counted_by_lem passes w p s h = rw (h.0, h.1, h.2)

pub balanced_by : (r : ReadPart) (w : Token) (b : Bool) (ws : List Token) → Reads r w
    → balanced b (w ∷ ws) ≡ elim r [ opens ↦ cond b false (balanced true ws) | closes ↦ cond b (balanced false ws) false | passes ↦ balanced b ws | reads x ↦ balanced b ws ]
unfolding balanced
balanced_by opens w b ws h = rw h
balanced_by closes w b ws h = rw (h.0, h.1)
balanced_by (reads x) w b ws h = rw (h.0, h.1)
balanced_by passes w b ws h = rw (h.0, h.1)

abbrev Members : Type 0
Members = List (Located Place RawSymbol)

-- a set that is open: its members to come, the sets behind it, and the product with s members before
record Held (m : List (Lexed Place)) (p s : ℕ) : Type 0 where
  rest : Members
  more : List Members
  sets_are : read_sets true m ≡ rest ∷ more
  value : combinations_from (sets p s) (map token_of m) ≡ min (p * ((s + length rest) * A.combinations more)) 262145

record Both (m : List (Lexed Place)) : Type 0 where
  free : (p s : ℕ) → p ≤ 262145 → balanced false (map token_of m) ≡ true → combinations_from (sets p s) (map token_of m) ≡ min (p * A.combinations (read_sets false m)) 262145
  held : (p s : ℕ) → p ≤ 262145 → balanced true (map token_of m) ≡ true → Held m p s

module _ (t : Lexed Place) (m : List (Lexed Place)) (ih : Both m) where
  abbrev ws : List Token
  ws = map token_of m

  step : (r : ReadPart) (p s : ℕ) → Reads r (token_of t) → combinations_from (sets p s) (token_of t ∷ ws) ≡ combinations_from (counted_by r p s) ws
  unfolding combinations_from
  step r p s h = ap (λ (x : Sets). combinations_from x ws) (counted_by_lem r (token_of t) p s h)

  outside_by : (r : ReadPart) → read_part t.kind ≡ r → read_sets false (t ∷ m) ≡ outside r t.place (read_sets false m) (read_sets true m)
  unfolding read_sets
  outside_by r e = ap (λ (r : ReadPart). outside r t.place (read_sets false m) (read_sets true m)) e

  inside_by : (r : ReadPart) → read_part t.kind ≡ r → read_sets true (t ∷ m) ≡ inside r t.place (read_sets false m) (read_sets true m)
  unfolding read_sets
  inside_by r e = ap (λ (r : ReadPart). inside r t.place (read_sets false m) (read_sets true m)) e

  no_set : {X : Type 0} → false ≡ true → X
  no_set e = absurd (let z : ◌≡◌ {A = ℕ} 0 1 = cc in omega arith)

  free_step : (r : ReadPart) → read_part t.kind ≡ r → Reads r (token_of t) → (p s : ℕ) → p ≤ 262145 → balanced false (token_of t ∷ ws) ≡ true
      → combinations_from (sets p s) (token_of t ∷ ws) ≡ min (p * A.combinations (read_sets false (t ∷ m))) 262145
  unfolding outside A.combinations
  free_step opens e h p s l b =
      let o = ih.held p 0 l (sym (balanced_by opens (token_of t) false ws h) ∙ b) in
      let z : 0 + length o.rest ≡ length o.rest = omega arith in
      step opens p s h ∙ o.value ∙ ap (λ (n : ℕ). min (p * (n * A.combinations o.more)) 262145) z
      ∙ ap (λ (x : List Members). min (p * A.combinations x) 262145) (sym (outside_by opens e ∙ o.sets_are))
  free_step closes e h p s l b = no_set (sym (balanced_by closes (token_of t) false ws h) ∙ b)
  free_step (reads x) e h p s l b =
      let z : 1 * A.combinations (read_sets false m) ≡ A.combinations (read_sets false m) = omega arith in
      step (reads x) p s h ∙ ih.free p (s + 1) l (sym (balanced_by (reads x) (token_of t) false ws h) ∙ b)
      ∙ ap (λ (n : ℕ). min (p * n) 262145) (sym z) ∙ ap (λ (x : List Members). min (p * A.combinations x) 262145) (sym (outside_by (reads x) e))
  free_step passes e h p s l b =
      step passes p s h ∙ ih.free p s l (sym (balanced_by passes (token_of t) false ws h) ∙ b) ∙ ap (λ (x : List Members). min (p * A.combinations x) 262145) (sym (outside_by passes e))

  held-step : (r : ReadPart) → read_part t.kind ≡ r → Reads r (token_of t) → (p s : ℕ) → p ≤ 262145 → balanced true (token_of t ∷ ws) ≡ true → Held (t ∷ m) p s
  unfolding inside joins
  held-step opens e h p s l b = no_set (sym (balanced_by opens (token_of t) true ws h) ∙ b)
  held-step closes e h p s l b =
      let c : ℕ = A.combinations (read_sets false m) in
      let q : ℕ = min (p * s) 262145 in
      let z : p * s * c ≡ p * ((s + 0) * c) = mul_assoc p s c ∙ ap (λ (n : ℕ). p * (n * c)) (omega arith) in
      record {
        rest = [];
        more = read_sets false m;
        sets_are = inside_by closes e;
        value = step closes p s h ∙ ih.free q s (min-le_right (p * s) 262145) (sym (balanced_by closes (token_of t) true ws h) ∙ b) ∙ cut_product (p * s) c ∙ ap (λ (n : ℕ). min n 262145) z;
      }
  held-step (reads x) e h p s l b =
      let o = ih.held p (s + 1) l (sym (balanced_by (reads x) (token_of t) true ws h) ∙ b) in
      let y : Located Place RawSymbol = record { value = x; place = t.place } in
      let z : s + 1 + length o.rest ≡ s + suc (length o.rest) = omega arith in
      record {
        rest = y ∷ o.rest;
        more = o.more;
        sets_are = inside_by (reads x) e ∙ ap (joins y) o.sets_are;
        value = step (reads x) p s h ∙ o.value ∙ ap (λ (n : ℕ). min (p * (n * A.combinations o.more)) 262145) z;
      }
  held-step passes e h p s l b =
      let o = ih.held p s l (sym (balanced_by passes (token_of t) true ws h) ∙ b) in
      record { rest = o.rest; more = o.more; sets_are = inside_by passes e ∙ o.sets_are; value = step passes p s h ∙ o.value }

both : (m : List (Lexed Place)) → AllSound m → Both m
unfolding combinations_from read_sets balanced A.combinations
both [] a = record {
  free = λ p s l b. sym (ap (λ (n : ℕ). min n 262145) (mul-one p) ∙ min-eq_left {n = p} {m = 262145} l);
  held = λ p s l b. absurd (let z : ◌≡◌ {A = ℕ} 0 1 = cc in omega arith);
}
both (t ∷ m) a =
    let ih = both m a.1 in
    record {
      free = λ p s l b. free_step t m ih (read_part t.kind) refl (read_by t a.0) p s l b;
      held = λ p s l b. held-step t m ih (read_part t.kind) refl (read_by t a.0) p s l b;
    }

-- the product
pub sets_mean : (m : List (Lexed Place)) → AllSound m → balanced false (map token_of m) ≡ true → combinations (map token_of m) ≡ min (A.combinations (read_sets false m)) 262145
unfolding combinations
sets_mean m a b =
    let z : 1 * A.combinations (read_sets false m) ≡ A.combinations (read_sets false m) = omega arith in
    (both m a).free 1 0 (omega arith) b ∙ ap (λ (n : ℕ). min n 262145) z
