-- The braces of what a rule reads open and close by turns.
use Rattle.std.specs.Prelude.{Err}
use mathlib.Core.Path.{◌≡◌, refl, sym, ap, subst, ◌∙◌}
use mathlib.Core.Bool.{Bool, true, false, cond, not, false≢true}
use mathlib.Core.List.{List, [], ◌∷◌, ◌++◌}
use Prim.Native.Nat.{ℕ, zero, suc, ◌+◌, ◌-◌, ◌≤◌, ◌<◌}
use native.Mathlib.Omega.{arith}
use borrow.Author.Tests.{eqb-true, eqb-false, ne_eqb}
use lib.Dec.{eqb}
use lib.ListN.{length, take, drop}
use lib.Seq.{drop-cons, drop-drop, take-add}
use Rattle.diag.proofs.Cases.{by_test_lem}
use Rattle.tokens.specs.declared.Token.{Token}
use Rattle.parser.specs.Row.{peek, ended}
use Rattle.parser.specs.Views.{is_kind, is_symbol}
use Rattle.parser.specs.Lines.{Parsed, Done, Failed, then, code_of, unexpected, one, separator, entries_from, entries, tuple, read_entry}
use Rattle.parser.proofs.Laws.{inside}
use Rattle.parser.proofs.Lists.{done_same, Within, on_test, separator_steps, symbol_steps}

-- braces open and close by turns; `true`: one is open
unfoldable pub balanced : Bool → List Token → Bool
balanced b [] = not b
balanced b (t ∷ ts) = cond (eqb t.kind 6) (cond b false (balanced true ts)) (cond (eqb t.kind 7) (cond b (balanced false ts) false) (balanced b ts))

-- the tokens from the index i to before j
abbrev pub between : List Token → ℕ → ℕ → List Token
between ts i j = take (j - i) (drop i ts)

pub false_true : {X : Type 0} → false ≡ true → X
false_true e = absurd (false≢true e)

balanced_append : (b : Bool) (l r : List Token) → balanced b l ≡ true → balanced b (l ++ r) ≡ balanced false r
unfolding balanced
balanced_append true [] r e = false_true e
balanced_append false [] r e = refl
balanced_append true (t ∷ l) r e =
    by_test_lem (eqb t.kind 6) (λ y. false_true (rw y at e)) λ n.
    by_test_lem (eqb t.kind 7) (λ y. rw (n, y) (balanced_append false l r (rw (n, y) at e))) (λ m. rw (n, m) (balanced_append true l r (rw (n, m) at e)))
balanced_append false (t ∷ l) r e =
    by_test_lem (eqb t.kind 6) (λ y. rw y (balanced_append true l r (rw y at e))) λ n.
    by_test_lem (eqb t.kind 7) (λ y. false_true (rw (n, y) at e)) (λ m. rw (n, m) (balanced_append false l r (rw (n, m) at e)))

module _ (ts : List Token) where
  between_split : (i j k : ℕ) → i ≤ j → j ≤ k → between ts i k ≡ between ts i j ++ between ts j k
  between_split i j k h g =
      let a : k - i ≡ (j - i) + (k - j) = omega arith in
      let b : i + (j - i) ≡ j = omega arith in
      ap (λ (n : ℕ). take n (drop i ts)) a ∙ take-add (j - i) (k - j) (drop i ts)
      ∙ ap (λ (l : List Token). take (j - i) (drop i ts) ++ take (k - j) l) (drop-drop (j - i) i ts ∙ ap (λ (n : ℕ). drop n ts) b)

  balanced_on : (b : Bool) (i j k : ℕ) → i ≤ j → j ≤ k → balanced b (between ts i j) ≡ true → balanced false (between ts j k) ≡ true → balanced b (between ts i k) ≡ true
  balanced_on b i j k h g e f = ap (balanced b) (between_split i j k h g) ∙ balanced_append b (between ts i j) (between ts j k) e ∙ f

  between_first : (i j : ℕ) → i < j → i < length ts → between ts i j ≡ peek ts i ∷ between ts (i + 1) j
  between_first i j h g =
      let a : j - i ≡ suc (j - (i + 1)) = omega arith in
      let b : suc i ≡ i + 1 = omega arith in
      ap (λ (n : ℕ). take n (drop i ts)) a ∙ ap (take (suc (j - (i + 1)))) (drop-cons ts i ended g) ∙ ap (λ (n : ℕ). peek ts i ∷ take (j - (i + 1)) (drop n ts)) b

  -- a token that is no brace
  balanced_plain : (b : Bool) (i j : ℕ) → i < j → i < length ts → eqb (peek ts i).kind 6 ≡ false → eqb (peek ts i).kind 7 ≡ false
      → balanced b (between ts (i + 1) j) ≡ true → balanced b (between ts i j) ≡ true
  unfolding balanced
  balanced_plain b i j h g n m e = ap (balanced b) (between_first i j h g) ∙ rw (n, m) e

  balanced_none : (i : ℕ) → balanced false (between ts i i) ≡ true
  unfolding balanced
  balanced_none i = let z : i - i ≡ 0 = omega arith in ap (λ (n : ℕ). balanced false (take n (drop i ts))) z

  -- one such token alone
  balanced_one : (i : ℕ) → i < length ts → eqb (peek ts i).kind 6 ≡ false → eqb (peek ts i).kind 7 ≡ false → balanced false (between ts i (i + 1)) ≡ true
  balanced_one i g n m = balanced_plain false i (i + 1) (omega arith) g n m (balanced_none (i + 1))

  -- `{` and `}`
  balanced_open : (i j : ℕ) → i < j → i < length ts → eqb (peek ts i).kind 6 ≡ true → balanced true (between ts (i + 1) j) ≡ true → balanced false (between ts i j) ≡ true
  unfolding balanced
  balanced_open i j h g y e = ap (balanced false) (between_first i j h g) ∙ rw y e

  balanced_close : (i : ℕ) → i < length ts → eqb (peek ts i).kind 7 ≡ true → balanced true (between ts i (i + 1)) ≡ true
  unfolding balanced
  balanced_close i g y =
      let k : (peek ts i).kind ≡ 7 = eqb-true (peek ts i).kind 7 y in
      let n : eqb (peek ts i).kind 6 ≡ false = ne_eqb (peek ts i).kind 6 (omega arith) in
      ap (balanced true) (between_first i (i + 1) (omega arith) g) ∙ rw (n, y) (balanced_none (i + 1))

-- a kind that is none of the two
pub not_brace : (t : Token) (n : ℕ) → eqb t.kind n ≡ true → (n ≡ 6 → ⊥) → (n ≡ 7 → ⊥) → (eqb t.kind 6 ≡ false) × (eqb t.kind 7 ≡ false)
not_brace t n e a b =
    let k : t.kind ≡ n = eqb-true t.kind n e in
    (ne_eqb t.kind 6 (λ z. a (sym k ∙ z)), ne_eqb t.kind 7 (λ z. b (sym k ∙ z)))

pub symbol_brace : (t : Token) → is_symbol t ≡ true → (eqb t.kind 6 ≡ false) × (eqb t.kind 7 ≡ false)
unfolding is_symbol
symbol_brace t e =
    by_test_lem (eqb t.kind 0) (λ y. not_brace t 0 y (λ z. omega arith) (λ z. omega arith)) λ n₀.
    by_test_lem (eqb t.kind 1) (λ y. not_brace t 1 y (λ z. omega arith) (λ z. omega arith)) λ n₁.
    by_test_lem (eqb t.kind 2) (λ y. not_brace t 2 y (λ z. omega arith) (λ z. omega arith)) λ n₂.
    by_test_lem (eqb t.kind 11) (λ y. not_brace t 11 y (λ z. omega arith) (λ z. omega arith)) λ n₃. false_true (rw (n₀, n₁, n₂, n₃) at e)

-- ---- what one token gave
pub one_done : (f : Token → Bool) (ts : List Token) (i j n : ℕ) → one f ts i ≡ Done j n → (j ≡ i + 1) × (f (peek ts i) ≡ true)
unfolding one unexpected
one_done f ts i j n e =
    by_test_lem (f (peek ts i)) (λ y. let z : Done (i + 1) 1 ≡ Done j n = rw y at e in (sym (done_same z).0, y)) (λ x. let z : Failed (code_of (peek ts i)) (record { start = (peek ts i).start; end = (peek ts i).end }) ≡ Done j n = rw x at e in absurd (let q : ◌≡◌ {A = ℕ} 0 1 = cc in omega arith))

-- a comma where more follow, else the closing sign
pub record Parted (close : ℕ) (ts : List Token) (i j n : ℕ) : Type 0 where
  pub next : j ≡ i + 1
  pub comma : (n ≡ 0 → ⊥) → eqb (peek ts i).kind 8 ≡ true
  pub closing : n ≡ 0 → eqb (peek ts i).kind close ≡ true

pub separator_done : (close : ℕ) (ts : List Token) (i j n : ℕ) → separator close ts i ≡ Done j n → Parted close ts i j n
unfolding separator unexpected
separator_done close ts i j n e =
    by_test_lem (eqb (peek ts i).kind 8)
    (λ y. let z : Done (i + 1) 1 ≡ Done j n = rw y at e in let m : n ≡ 1 = sym (done_same z).1 in record { next = sym (done_same z).0; comma = λ _. y; closing = λ q. absurd (omega arith) }) λ x.
    by_test_lem (eqb (peek ts i).kind close)
    (λ y. let z : Done (i + 1) 0 ≡ Done j n = rw (x, y) at e in let m : n ≡ 0 = sym (done_same z).1 in record { next = sym (done_same z).0; comma = λ q. absurd (q m); closing = λ _. y })
    (λ w. let z : Failed (code_of (peek ts i)) (record { start = (peek ts i).start; end = (peek ts i).end }) ≡ Done j n = rw (x, w) at e in absurd (let q : ◌≡◌ {A = ℕ} 0 1 = cc in omega arith))

-- ---- the parsers of what is read
-- what was read from the index i on is balanced; `true`: a brace was open
abbrev pub Even : Bool → List Token → ℕ → Parsed ℕ → Type 0
Even b ts i (Done j n) = (i ≤ j) × (balanced b (between ts i j) ≡ true)
Even b ts i (Err bad) = Unit {0}

then_even : (b : Bool) (ts : List Token) (i : ℕ) (r : Parsed ℕ) (f : ℕ → ℕ → Parsed ℕ) → ((j n : ℕ) → r ≡ Done j n → Even b ts i (f j n)) → Even b ts i (then r f)
unfolding then
then_even b ts i (Done j n) f g = g j n refl
then_even b ts i (Err bad) f g = tt

even_plain : (b : Bool) (ts : List Token) (i : ℕ) (r : Parsed ℕ) → i < length ts → eqb (peek ts i).kind 6 ≡ false → eqb (peek ts i).kind 7 ≡ false → Even b ts (i + 1) r → Even b ts i r
even_plain b ts i (Done j n) h a c e = (omega (arith, e.0), balanced_plain ts b i j (omega (arith, e.0)) h a c e.1)
even_plain b ts i (Err bad) h a d e = tt

-- behind what is balanced
even_on : (ts : List Token) (i j : ℕ) (r : Parsed ℕ) → i ≤ j → balanced false (between ts i j) ≡ true → Even false ts j r → Even false ts i r
even_on ts i j (Done k n) h e f = (omega (arith, f.0), balanced_on ts false i j k h f.0 e f.1)
even_on ts i j (Err bad) h e f = tt

pub within_row : (ts : List Token) (i n : ℕ) → n < 13 → eqb (peek ts i).kind n ≡ true → i < length ts
unfolding is_kind
within_row ts i n h y = inside (is_kind n) ts i (ne_eqb 13 n (omega arith)) y

-- symbols up to `}`
symbols_from : (ts : List Token) (k i n : ℕ) → Even true ts i (entries_from (one is_symbol) 7 ts k i n)
unfolding entries_from unexpected
symbols_from ts zero i n = tt
symbols_from ts (suc k) i n =
    then_even true ts i (one is_symbol ts i) (λ j _. then (separator 7 ts j) λ next more. elim (eqb more 0) [ true ↦ Done next (n + 1) | false ↦ entries_from (one is_symbol) 7 ts k next (n + 1) ]) λ j m e.
    let o = one_done is_symbol ts i j m e in
    let w : (i < j) × (j ≤ length ts) = subst (Within ts i) e (symbol_steps.within ts i) in
    let s = symbol_brace (peek ts i) o.1 in
    then_even true ts i (separator 7 ts j) (λ next more. elim (eqb more 0) [ true ↦ Done next (n + 1) | false ↦ entries_from (one is_symbol) 7 ts k next (n + 1) ]) λ next more d.
    let p = separator_done 7 ts j next more d in
    let v : (j < next) × (next ≤ length ts) = subst (Within ts j) d ((separator_steps 7 (omega arith)).within ts j) in
    let from : (r : Parsed ℕ) → Even true ts j r → Even true ts i r = λ r x. even_plain true ts i r (omega arith) s.0 s.1 (subst (λ (n : ℕ). Even true ts n r) o.0 x) in
    by_test_lem (eqb more 0)
    (λ y.
    let c : balanced true (between ts j next) ≡ true = ap (λ (n : ℕ). balanced true (between ts j n)) p.next ∙ balanced_close ts j (omega arith) (p.closing (eqb-true more 0 y)) in
    rw y (from (Done next (n + 1)) (omega arith, c)))
    (λ x.
    let c = not_brace (peek ts j) 8 (p.comma (λ z. eqb-false more 0 x z)) (λ z. omega arith) (λ z. omega arith) in
    let r : Parsed ℕ = entries_from (one is_symbol) 7 ts k next (n + 1) in
    rw x (from r (even_plain true ts j r (omega arith) c.0 c.1 (subst (λ (n : ℕ). Even true ts n r) p.next (symbols_from ts k next (n + 1))))))

-- a symbol, or a set
read_even : (ts : List Token) (i : ℕ) → Even false ts i (read_entry ts i)
unfolding read_entry entries
read_even ts i =
    on_test (Even false ts i) (eqb (peek ts i).kind 6)
    (λ y.
    then_even false ts i (entries (one is_symbol) 7 ts (i + 1) 0) (λ j _. Done j 1) λ j m e.
    let s : (i + 1 ≤ j) × (balanced true (between ts (i + 1) j) ≡ true) = subst (Even true ts (i + 1)) e (symbols_from ts (suc (length ts)) (i + 1) 0) in
    (omega (arith, s.0), balanced_open ts i j (omega (arith, s.0)) (within_row ts i 6 (omega arith) y) y s.1))
    (λ x. single (one is_symbol ts i) refl)
  where
    single : (r : Parsed ℕ) → one is_symbol ts i ≡ r → Even false ts i r
    single (Done j n) e =
        let o = one_done is_symbol ts i j n e in
        let w : (i < j) × (j ≤ length ts) = subst (Within ts i) e (symbol_steps.within ts i) in
        let s = symbol_brace (peek ts i) o.1 in
        (omega arith, ap (λ (k : ℕ). balanced false (between ts i k)) o.0 ∙ balanced_one ts i (omega arith) s.0 s.1)
    single (Err bad) e = tt

-- entries up to `)`
reads_from : (ts : List Token) (k i n : ℕ) → Even false ts i (entries_from read_entry 5 ts k i n)
unfolding entries_from unexpected
reads_from ts zero i n = tt
reads_from ts (suc k) i n =
    then_even false ts i (read_entry ts i) (λ j _. then (separator 5 ts j) λ next more. elim (eqb more 0) [ true ↦ Done next (n + 1) | false ↦ entries_from read_entry 5 ts k next (n + 1) ]) λ j m e.
    let r₀ : (i ≤ j) × (balanced false (between ts i j) ≡ true) = subst (Even false ts i) e (read_even ts i) in
    then_even false ts i (separator 5 ts j) (λ next more. elim (eqb more 0) [ true ↦ Done next (n + 1) | false ↦ entries_from read_entry 5 ts k next (n + 1) ]) λ next more d.
    let p = separator_done 5 ts j next more d in
    let v : (j < next) × (next ≤ length ts) = subst (Within ts j) d ((separator_steps 5 (omega arith)).within ts j) in
    by_test_lem (eqb more 0)
    (λ y.
    let c = not_brace (peek ts j) 5 (p.closing (eqb-true more 0 y)) (λ z. omega arith) (λ z. omega arith) in
    let last : balanced false (between ts j next) ≡ true = ap (λ (n : ℕ). balanced false (between ts j n)) p.next ∙ balanced_one ts j (omega arith) c.0 c.1 in
    rw y (even_on ts i j (Done next (n + 1)) r₀.0 r₀.1 (omega arith, last)))
    (λ x.
    let c = not_brace (peek ts j) 8 (p.comma (λ z. eqb-false more 0 x z)) (λ z. omega arith) (λ z. omega arith) in
    let r : Parsed ℕ = entries_from read_entry 5 ts k next (n + 1) in
    rw x (even_on ts i j r r₀.0 r₀.1 (even_plain false ts j r (omega arith) c.0 c.1 (subst (λ (n : ℕ). Even false ts n r) p.next (reads_from ts k next (n + 1))))))

pub reads_even : (ts : List Token) (i : ℕ) → Even false ts i (tuple read_entry ts i)
unfolding tuple entries
reads_even ts i =
    on_test (Even false ts i) (eqb (peek ts i).kind 4)
    (λ y.
    let c = not_brace (peek ts i) 4 y (λ z. omega arith) (λ z. omega arith) in
    even_plain false ts i (entries read_entry 5 ts (i + 1) 0) (within_row ts i 4 (omega arith) y) c.0 c.1 (reads_from ts (suc (length ts)) (i + 1) 0))
    (λ x. read_even ts i)

-- a sign behind what is balanced
pub balanced_sign : (ts : List Token) (i j n : ℕ) → i ≤ j → n < 13 → eqb (peek ts j).kind n ≡ true → (n ≡ 6 → ⊥) → (n ≡ 7 → ⊥) → balanced false (between ts i j) ≡ true → balanced false (between ts i (j + 1)) ≡ true
balanced_sign ts i j n h l y a b e =
    let c = not_brace (peek ts j) n y a b in
    balanced_on ts false i j (j + 1) h (omega arith) e (balanced_one ts j (within_row ts j n l y) c.0 c.1)
