-- Laws of repeated names: a line is the first that declares its name exactly if the table of all first declarations has its
-- index; so this table gives the same diagnostics as the one that grows from line to line.
use mathlib.Core.Path.{◌≡◌, refl, sym, ap, ◌∙◌}
use mathlib.Core.Bool.{Bool, true, false, cond}
use mathlib.Core.List.{List, [], ◌∷◌, ◌++◌}
use Prim.Native.Nat.{ℕ, zero, suc, ◌+◌, ◌≤◌, ◌<◌}
use native.Mathlib.Omega.{arith}
use borrow.Author.Tests.{eq-eqb, ne_eqb, ltb-true, ltb-false, leb-true, eqb-true, eqb-false}
use lib.Dec.{eqb, leb, ltb}
use lib.ListN.{length, get_or, set, length-set, get_or-replicate}
use lib.Seq.{get_or-set_same, get_or-set_other}
use Rattle.diag.specs.declared.Diagnostic.{Diagnostic}
use Rattle.diag.specs.Log.{error, with_related}
use Rattle.diag.proofs.Cases.{by_test_lem}
use Rattle.tokens.specs.declared.Token.{Token}
use Rattle.parser.specs.Row.{peek}
use Rattle.assembler.specs.Rows.{place_of}
use Rattle.assembler.specs.Entries.{Entry, behind, entries_from, entries}
use Rattle.assembler.specs.Declarations.{declares, name_of, undeclared, declare, declarations, tapes_error, declaration_error, declaration_errors}
use Rattle.diag_search.specs.Repeats.{name_error, name_errors}

-- ---- lines in the order of their indices, from lo on and below n
unfoldable Rising : ℕ → ℕ → List Entry → Type 0
Rising n lo [] = Unit {0}
Rising n lo (e ∷ es) = (lo ≤ e.at) × (e.at < n) × Rising n (suc e.at) es

entries-rising : (n k i lo : ℕ) (ts : List Token) → lo ≤ i → i + length ts ≤ n → Rising n lo (entries_from k i ts)
unfolding entries_from Rising
entries-rising n zero i lo [] h g = tt
entries-rising n (suc k) i lo [] h g = tt
entries-rising n zero i lo (t ∷ ts) h g = (h, omega arith, entries-rising n (behind i t) (suc i) (suc i) ts (omega arith) (omega arith))
entries-rising n (suc k) i lo (t ∷ ts) h g = entries-rising n k (suc i) lo ts (omega arith) (omega arith)

-- ---- a table of first declarations: each that is one is below lo
record Table (n lo : ℕ) (T : List ℕ) : Type 0 where
  size : length T ≡ 11
  known : (k : ℕ) → k < 11 → get_or T k 0 < n → get_or T k 0 < lo

-- the number of a name
name_few : (t : Token) → declares t ≡ true → name_of t < 11
unfolding declares
name_few t e = go (leb 16 t.kind) refl e
  where
    go : (x : Bool) → leb 16 t.kind ≡ x → cond x (ltb t.kind 27) false ≡ true → name_of t < 11
    go true a b = omega (arith, leb-true 16 t.kind a, ltb-true t.kind 27 b)
    go false a b = let z : ◌≡◌ {A = ℕ} 0 1 = cc in absurd (omega arith)

module _ (n : ℕ) (T : List ℕ) (e : Entry) where
  abbrev k : ℕ
  k = name_of e.first

  -- what is declared stays
  declare_keeps : (j : ℕ) → get_or T j 0 < n → get_or (declare n T e) j 0 ≡ get_or T j 0
  unfolding declare
  declare_keeps j h = go (declares e.first) (ltb (get_or T k 0) n) refl
    where
      go : (x y : Bool) → ltb (get_or T k 0) n ≡ y → get_or (cond x (cond y T (set T k e.at)) T) j 0 ≡ get_or T j 0
      go false y a = refl
      go true true a = refl
      go true false a = get_or-set_other T k j e.at 0 (λ z. absurd (omega (arith, ap (λ (i : ℕ). get_or T i 0) z, ltb-false (get_or T k 0) n a)))

  declare_new : declares e.first ≡ true → ltb (get_or T k 0) n ≡ false → declare n T e ≡ set T k e.at
  unfolding declare
  declare_new a b = rw (a, b)

  -- the table with one line more
  table_on : (lo : ℕ) → Table n lo T → lo ≤ e.at → Table n (suc e.at) (declare n T e)
  unfolding declare
  table_on lo t h = go (declares e.first) refl (ltb (get_or T k 0) n)
    where
      old : Table n (suc e.at) T
      old = record { size = t.size; known = λ j g l. omega (arith, t.known j g l) }

      new : k < 11 → Table n (suc e.at) (set T k e.at)
      new low = record {
        size = length-set T k e.at ∙ t.size;
        known = λ j g l.
            by_test_lem (eqb j k)
            (λ y.
            let same : get_or (set T k e.at) j 0 ≡ e.at = ap (λ (i : ℕ). get_or (set T k e.at) i 0) (eqb-true j k y) ∙ get_or-set_same T k e.at 0 (omega (arith, t.size)) in
            omega arith)
            (λ y.
            let other : get_or (set T k e.at) j 0 ≡ get_or T j 0 = get_or-set_other T k j e.at 0 (eqb-false j k y) in
            omega (arith, t.known j g (omega arith)));
      }

      go : (x : Bool) → declares e.first ≡ x → (y : Bool) → Table n (suc e.at) (cond x (cond y T (set T k e.at)) T)
      go false a y = old
      go true a true = old
      go true a false = new (name_few e.first a)

stable : (n : ℕ) (T : List ℕ) (es : List Entry) (j : ℕ) → get_or T j 0 < n → get_or (declarations n T es) j 0 ≡ get_or T j 0
unfolding declarations
stable n T [] j h = refl
stable n T (e ∷ es) j h =
    let kept : get_or (declare n T e) j 0 ≡ get_or T j 0 = declare_keeps n T e j h in
    stable n (declare n T e) es j (omega arith) ∙ kept

-- ---- one line by either table
same-error : (ts : List Token) (lo : ℕ) (T : List ℕ) (e : Entry) (es : List Entry) → Table (length ts) lo T → lo ≤ e.at → e.at < length ts
    → declaration_error ts T e ≡ name_error ts (declarations (length ts) T (e ∷ es)) e
unfolding declaration_error name_error declarations
same-error ts lo T e es t h g = go (declares e.first) refl (ltb (get_or T k' 0) n) refl
  where
    n : ℕ
    n = length ts

    k' : ℕ
    k' = name_of e.first

    F : List ℕ
    F = declarations n (declare n T e) es

    again : ℕ → List Diagnostic
    again f = with_related (error 11 (place_of e.first)) (place_of (peek ts f)) ∷ []

    go : (x : Bool) → declares e.first ≡ x → (y : Bool) → ltb (get_or T k' 0) n ≡ y
        → cond x (cond y (again (get_or T k' 0)) (tapes_error e)) [] ≡ cond x (cond (eqb (get_or F k' 0) e.at) (tapes_error e) (again (get_or F k' 0))) []
    go false a y b = refl
    go true a true b =
        let low : get_or T k' 0 < n = ltb-true (get_or T k' 0) n b in
        let is : get_or F k' 0 ≡ get_or T k' 0 = stable n T (e ∷ es) k' low in
        let no : eqb (get_or F k' 0) e.at ≡ false = ne_eqb (get_or F k' 0) e.at (λ z. absurd (omega (arith, t.known k' (name_few e.first a) low))) in
        ap again (sym is) ∙ sym (ap (λ (b : Bool). cond b (tapes_error e) (again (get_or F k' 0))) no)
    go true a false b =
        let T' : declare n T e ≡ set T k' e.at = declare_new n T e a b in
        let at : get_or (declare n T e) k' 0 ≡ e.at =
        ap (λ (l : List ℕ). get_or l k' 0) T' ∙ get_or-set_same T k' e.at 0 (omega (arith, t.size, name_few e.first a)) in
        let is : get_or F k' 0 ≡ e.at = stable n (declare n T e) es k' (omega arith) ∙ at in
        sym (ap (λ (b : Bool). cond b (tapes_error e) (again (get_or F k' 0))) (eq-eqb (get_or F k' 0) e.at is))

-- ---- all lines
same_errors : (ts : List Token) (lo : ℕ) (T : List ℕ) (es : List Entry) → Table (length ts) lo T → Rising (length ts) lo es
    → declaration_errors ts T es ≡ name_errors ts (declarations (length ts) T es) es
unfolding declaration_errors name_errors declarations Rising
same_errors ts lo T [] t r = refl
same_errors ts lo T (e ∷ es) t r =
    let T' : List ℕ = declare (length ts) T e in
    ap (λ (ds : List Diagnostic). ds ++ declaration_errors ts T' es) (same-error ts lo T e es t r.0 r.1)
    ∙ ap (λ (ds : List Diagnostic). name_error ts (declarations (length ts) T' es) e ++ ds) (same_errors ts (suc e.at) T' es (table_on (length ts) T e lo t r.0) r.2)

pub repeats : (ts : List Token) → length ts ≤ 0xffffffff → declaration_errors ts undeclared (entries ts) ≡ name_errors ts (declarations (length ts) undeclared (entries ts)) (entries ts)
unfolding entries
repeats ts h =
    same_errors ts 0 undeclared (entries_from 0 0 ts)
    (record { size = refl; known = λ k g l. absurd (omega (arith, get_or-replicate {A = ℕ} 11 k 0xffffffff 0 g)) })
    (entries-rising (length ts) 0 0 0 ts (omega arith) (omega arith))
