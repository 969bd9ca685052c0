-- The first declarations over the row and the language's: a name that is declared has an entry, and what the entry means is the
-- first item that has the part.
use mathlib.Core.Path.{◌≡◌, refl, sym, ap, subst, ◌∙◌}
use mathlib.Core.Bool.{Bool, true, false, cond}
use mathlib.Core.List.{List, [], ◌∷◌}
use Rattle.std.specs.Prelude.{Option, None, Some}
use Prim.Native.Nat.{ℕ, ◌+◌, ◌≤◌, ◌<◌}
use native.Mathlib.Omega.{arith}
use borrow.Author.Tests.{lt-ltb, le-ltb, le-leb, lt-leb, eqb-true, eqb-false}
use lib.Dec.{eqb, ltb}
use lib.ListN.{length, get_or, set, length-set, get_or-replicate}
use lib.Seq.{get_or-set_same, get_or-set_other}
use Rattle.diag.proofs.Cases.{by_test_lem}
use Rattle.diag.specs.declared.Span.{Span as Place}
use Rattle.tokens.specs.declared.Token.{Token}
use Rattle.language.specs.Machine.{Located}
use Rattle.language.specs.Lines.{Item, machine_item, input_item, kind_item, output_item, tapes_item, states_item, final_item, input_alphabet_item, tape_alphabet_item, blank_item, start_item, transition_item, Line, blank_line, comment_line, item_line, error_line}
use Rattle.language.specs.Assembly as A
use Rattle.language.proofs.Columns
use Rattle.assembler.specs.Entries.{Entry, entry_at}
use Rattle.assembler.specs.Declarations.{declares, name_of, undeclared, declare, declarations}
use Rattle.assembler.proofs.Means.{number, ItemMeans, AllMean, no_lines, one_line}

-- ---- one line more
module _ (n : ℕ) (f : List ℕ) (e : Entry) where
  declare_by : (b c : Bool) → declares e.first ≡ b → ltb (get_or f (name_of e.first) 0) n ≡ c → declare n f e ≡ cond b (cond c f (set f (name_of e.first) e.at)) f
  unfolding declare
  declare_by b c p q = rw (p, q)

  declare-nothing : declares e.first ≡ false → declare n f e ≡ f
  unfolding declare
  declare-nothing p = rw p

  declare-length : length (declare n f e) ≡ length f
  declare-length =
      by_test_lem (declares e.first)
      (λ p. by_test_lem (ltb (get_or f (name_of e.first) 0) n) (λ q. ap length (declare_by true true p q)) (λ q. ap length (declare_by true false p q) ∙ length-set f (name_of e.first) e.at))
      (λ p. ap length (declare-nothing p))

  module _ (k : ℕ) where
    declare-other : (name_of e.first ≡ k → ⊥) → get_or (declare n f e) k 0 ≡ get_or f k 0
    declare-other h =
        by_test_lem (declares e.first)
        (λ p. by_test_lem (ltb (get_or f (name_of e.first) 0) n) (λ q. ap (λ (l : List ℕ). get_or l k 0) (declare_by true true p q))
        (λ q. ap (λ (l : List ℕ). get_or l k 0) (declare_by true false p q) ∙ get_or-set_other f (name_of e.first) k e.at 0 (λ z. h (sym z))))
        (λ p. ap (λ (l : List ℕ). get_or l k 0) (declare-nothing p))

    -- a name that is declared stays
    declare_keeps : ltb (get_or f k 0) n ≡ true → get_or (declare n f e) k 0 ≡ get_or f k 0
    declare_keeps h =
        by_test_lem (eqb (name_of e.first) k)
        (λ y.
        let q : ltb (get_or f (name_of e.first) 0) n ≡ true = ap (λ (j : ℕ). ltb (get_or f j 0) n) (eqb-true (name_of e.first) k y) ∙ h in
        by_test_lem (declares e.first) (λ p. ap (λ (l : List ℕ). get_or l k 0) (declare_by true true p q)) (λ p. ap (λ (l : List ℕ). get_or l k 0) (declare-nothing p)))
        (λ x. declare-other (eqb-false (name_of e.first) k x))

    declare_new : declares e.first ≡ true → name_of e.first ≡ k → ltb (get_or f k 0) n ≡ false → k < length f → get_or (declare n f e) k 0 ≡ e.at
    declare_new p m h l =
        let q : ltb (get_or f (name_of e.first) 0) n ≡ false = ap (λ (j : ℕ). ltb (get_or f j 0) n) m ∙ h in
        ap (λ (l : List ℕ). get_or l k 0) (declare_by true false p q) ∙ ap (λ (j : ℕ). get_or (set f j e.at) k 0) m ∙ get_or-set_same f k e.at 0 l

-- which lines declare
declares_low : (e : Entry) → e.first.kind < 16 → declares e.first ≡ false
unfolding declares
declares_low e h = rw (lt-leb 16 e.first.kind h)

declares_high : (e : Entry) → 27 ≤ e.first.kind → declares e.first ≡ false
unfolding declares
declares_high e h = rw (le-leb 16 e.first.kind (omega arith), le-ltb e.first.kind 27 h)

declares-item : (e : Entry) (n : ℕ) → e.first.kind ≡ 16 + n → n < 11 → declares e.first ≡ true
unfolding declares
declares-item e n k h = rw (le-leb 16 e.first.kind (omega arith), lt-ltb e.first.kind 27 (omega arith))

-- a name that is declared stays so to the end of the lines
declarations_keep : (n k : ℕ) (f : List ℕ) (es : List Entry) → ltb (get_or f k 0) n ≡ true → get_or (declarations n f es) k 0 ≡ get_or f k 0
unfolding declarations
declarations_keep n k f [] h = refl
declarations_keep n k f (e ∷ es) h =
    let s = declare_keeps n f e k h in
    declarations_keep n k (declare n f e) es (ap (λ (x : ℕ). ltb x n) s ∙ h) ∙ s

-- ---- a part of an item
-- something is there exactly where a test is true
abbrev pub Agrees : {B : Type 0} → Option B → Bool → Type 0
Agrees None true = ⊥
Agrees None false = Unit {0}
Agrees (Some a) true = Unit {0}
Agrees (Some a) false = ⊥

-- which part each item has
abbrev Filled : Columns.Parts Place → ℕ → Type 0
Filled p n =
    Agrees p.machine (eqb n 0) × Agrees p.kind (eqb n 1) × Agrees p.input (eqb n 2) × Agrees p.output (eqb n 3) × Agrees p.tapes (eqb n 4) ×
    Agrees p.states (eqb n 5) × Agrees p.sigma (eqb n 6) × Agrees p.gamma (eqb n 7) × Agrees p.blank (eqb n 8) × Agrees p.start (eqb n 9) × Agrees p.finals (eqb n 10)

pub fills : (i : Item Place) → Filled (Columns.parts i) (number i)
unfolding number
fills (machine_item x) = (tt, tt, tt, tt, tt, tt, tt, tt, tt, tt, tt)
fills (kind_item x) = (tt, tt, tt, tt, tt, tt, tt, tt, tt, tt, tt)
fills (input_item x) = (tt, tt, tt, tt, tt, tt, tt, tt, tt, tt, tt)
fills (output_item x) = (tt, tt, tt, tt, tt, tt, tt, tt, tt, tt, tt)
fills (tapes_item x) = (tt, tt, tt, tt, tt, tt, tt, tt, tt, tt, tt)
fills (states_item x) = (tt, tt, tt, tt, tt, tt, tt, tt, tt, tt, tt)
fills (input_alphabet_item x) = (tt, tt, tt, tt, tt, tt, tt, tt, tt, tt, tt)
fills (tape_alphabet_item x) = (tt, tt, tt, tt, tt, tt, tt, tt, tt, tt, tt)
fills (blank_item x) = (tt, tt, tt, tt, tt, tt, tt, tt, tt, tt, tt)
fills (start_item x) = (tt, tt, tt, tt, tt, tt, tt, tt, tt, tt, tt)
fills (final_item x) = (tt, tt, tt, tt, tt, tt, tt, tt, tt, tt, tt)
fills (transition_item x) = (tt, tt, tt, tt, tt, tt, tt, tt, tt, tt, tt)

-- the part of the first declaration at the index f: there is none, or an entry that means an item which has it
pub data Declared {B : Type 0} (X : Entry → Item Place → Type 0) (ts : List Token) (part : Columns.Parts Place → Option B) (f : ℕ) (is : List (Located Place (Item Place))) : Type 0 where
  absent : ltb f (length ts) ≡ false → A.first (Columns.select part) is ≡ None → Declared X ts part f is
  present : (e : Entry) (i : Item Place) (p : Place) (a : B) → ltb f (length ts) ≡ true → e ≡ entry_at ts f → ItemMeans X e i p → part (Columns.parts i) ≡ Some a
      → A.first (Columns.select part) is ≡ Some (record { value = a; place = p }) → Declared X ts part f is

module _ {B : Type 0} (X : Entry → Item Place → Type 0) (ts : List Token) (part : Columns.Parts Place → Option B) (k : ℕ) (low : k < 11) (agrees : (i : Item Place) → Agrees (part (Columns.parts i)) (eqb (number i) k)) where
  first_by : (i : Item Place) (p : Place) (is : List (Located Place (Item Place))) (o : Option B) → part (Columns.parts i) ≡ o
      → A.first (Columns.select part) (record { value = i; place = p } ∷ is) ≡ elim o [ Some a ↦ Some (record { value = a; place = p }) | None ↦ A.first (Columns.select part) is ]
  unfolding A.first
  first_by i p is o e = ap (λ (o : Option B). elim o [ Some a ↦ Some (record { value = a; place = p }) | None ↦ A.first (Columns.select part) is ]) e

  -- in front of the rest stands an item that has not the part
  later : (f : ℕ) (is js : List (Located Place (Item Place))) → A.first (Columns.select part) js ≡ A.first (Columns.select part) is → Declared X ts part f is → Declared X ts part f js
  later f is js e (absent h g) = absent h (e ∙ g)
  later f is js e (present en i p a h q m o g) = present en i p a h q m o (e ∙ g)

  -- a line that declares nothing
  passed : (f : List ℕ) (e : Entry) (es : List Entry) (is : List (Located Place (Item Place))) → declares e.first ≡ false
      → Declared X ts part (get_or (declarations (length ts) f es) k 0) is → Declared X ts part (get_or (declarations (length ts) f (e ∷ es)) k 0) is
  unfolding declarations
  passed f e es is h d = subst (λ (g : List ℕ). Declared X ts part (get_or (declarations (length ts) g es) k 0) is) (sym (declare-nothing (length ts) f e h)) d

  pub declared-first : (f : List ℕ) (es : List Entry) (ls : List (Line Place)) → AllMean X ts es ls → length f ≡ 11 → ltb (get_or f k 0) (length ts) ≡ false
      → Declared X ts part (get_or (declarations (length ts) f es) k 0) (A.items ls)
  unfolding declarations A.items A.first
  declared-first f [] [] no_lines s h = absent h refl
  declared-first f [] (l ∷ ls) m s h = elim m [ ]
  declared-first f (e ∷ es) [] m s h = elim m [ ]
  declared-first f (e ∷ es) (blank_line ∷ ls) (one_line l q m r) s h = passed f e es (A.items ls) (declares_low e m) (declared-first f es ls r s h)
  declared-first f (e ∷ es) (comment_line c ∷ ls) (one_line l q m r) s h = passed f e es (A.items ls) (declares_low e m) (declared-first f es ls r s h)
  declared-first f (e ∷ es) (error_line n p ∷ ls) (one_line l q m r) s h = passed f e es (A.items ls) (declares_high e (omega (arith, m.0))) (declared-first f es ls r s h)
  declared-first f (e ∷ es) (item_line i p c ∷ ls) (one_line l q m r) s h =
      go (declared-first (declare (length ts) f e) es ls r (declare-length (length ts) f e ∙ s)) (part (Columns.parts i)) (eqb (number i) k) refl refl (agrees i)
    where
      name_is : name_of e.first ≡ number i
      name_is = omega (arith, m.kind)

      go : (ltb (get_or (declare (length ts) f e) k 0) (length ts) ≡ false → Declared X ts part (get_or (declarations (length ts) (declare (length ts) f e) es) k 0) (A.items ls))
          → (o : Option B) (b : Bool) → part (Columns.parts i) ≡ o → eqb (number i) k ≡ b → Agrees o b
          → Declared X ts part (get_or (declarations (length ts) (declare (length ts) f e) es) k 0) (record { value = i; place = p } ∷ A.items ls)
      go rest None true o y z = absurd z
      go rest (Some a) false o y z = absurd z
      go rest None false o y z =
          let n : name_of e.first ≡ k → ⊥ = λ w. eqb-false (number i) k y (sym name_is ∙ w) in
          let same = declare-other (length ts) f e k n in
          later _ (A.items ls) _ (first_by i p (A.items ls) None o)
          (rest (ap (λ (x : ℕ). ltb x (length ts)) same ∙ h))
      go rest (Some a) true o y z =
          let n : number i ≡ k = eqb-true (number i) k y in
          let v : get_or (declare (length ts) f e) k 0 ≡ e.at = declare_new (length ts) f e k (declares-item e (number i) m.kind (omega arith)) (name_is ∙ n) h (omega arith) in
          let t : ltb e.at (length ts) ≡ true = lt-ltb e.at (length ts) l in
          let w : get_or (declarations (length ts) (declare (length ts) f e) es) k 0 ≡ e.at =
          declarations_keep (length ts) k (declare (length ts) f e) es (ap (λ (x : ℕ). ltb x (length ts)) v ∙ t) ∙ v in
          present e i p a (ap (λ (x : ℕ). ltb x (length ts)) w ∙ t) (q ∙ ap (entry_at ts) (sym w)) m o (first_by i p (A.items ls) (Some a) o)

  -- from the first line on
  pub declared-part : length ts ≤ 0xffffffff → (es : List Entry) (ls : List (Line Place)) → AllMean X ts es ls → Declared X ts part (get_or (declarations (length ts) undeclared es) k 0) (A.items ls)
  declared-part few es ls all = declared-first undeclared es ls all refl (le-ltb (get_or undeclared k 0) (length ts) (omega (arith, get_or-replicate {A = ℕ} 11 k 0xffffffff 0 low)))
