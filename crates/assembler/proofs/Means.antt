-- What the entries of a row mean: each says of its line what the language's line says. The
-- diagnostics of the two are then the same.
use mathlib.Core.Path.{◌≡◌, refl, sym, ap, subst, ◌∙◌}
use mathlib.Core.Bool.{Bool, true, false, cond}
use mathlib.Core.List.{List, [], ◌∷◌, ◌++◌}
use Rattle.std.specs.Prelude.{Option, None, Some}
use Prim.Native.Nat.{ℕ, ◌+◌, ◌-◌, ◌≤◌, ◌<◌}
use native.Mathlib.Omega.{arith}
use borrow.Author.Tests.{lt-ltb, le-ltb, le-leb, lt-leb, eq-eqb, ne_eqb, ltb-true, ltb-false, leb-true, leb-false, eqb-true, eqb-false}
use lib.Dec.{eqb, leb, ltb}
use lib.ListN.{length, get_or, set, length-set, get_or-replicate}
use lib.Seq.{get_or-set_same, get_or-set_other}
use Rattle.diag.proofs.Cases.{by_test_lem}
use Rattle.diag.specs.declared.Span.{Span}
use Rattle.diag.specs.declared.Diagnostic.{Diagnostic}
use Rattle.diag.specs.Log.{error, with_related}
use Rattle.tokens.specs.declared.Token.{Token}
use Rattle.parser.specs.Row.{peek}
use Rattle.language.specs.Machine.{Located}
use Rattle.language.specs.Lines.{Item, machine_item, input_item, kind_item, output_item, tapes_item, states_item, final_item, input_alphabet_item, tape_alphabet_item, blank_item, start_item, transition_item, Line, blank_line, comment_line, item_line, error_line}
use Rattle.language.specs.Layout.{or_none}
use Rattle.language.specs.Assembly as A
use Rattle.language.proofs.Columns
use Rattle.assembler.specs.Rows.{place_of}
use Rattle.assembler.specs.Entries.{Entry, entry_at}
use Rattle.assembler.specs.Failures.{line_error, line_errors}
use Rattle.assembler.specs.Declarations.{declares, name_of, undeclared, declare, tapes_error, declaration_error, declaration_errors}
use Rattle.assembler.specs.Records.{record_of, records_of}

-- ---- an entry and a line
-- the items in the source's order
unfoldable pub number : Item Span → ℕ
number (machine_item x) = 0
number (kind_item x) = 1
number (input_item x) = 2
number (output_item x) = 3
number (tapes_item x) = 4
number (states_item x) = 5
number (input_alphabet_item x) = 6
number (tape_alphabet_item x) = 7
number (blank_item x) = 8
number (start_item x) = 9
number (final_item x) = 10
number (transition_item x) = 11

-- the value of `tapes`, the third token
pub record TapesMean (e : Entry) (n : Located Span ℕ) : Type 0 where
  pub large : ltb 255 (peek e.rest 1).value ≡ ltb 255 n.value
  pub place : place_of (peek e.rest 1) ≡ n.place

abbrev pub TapesOf : Entry → Item Span → Type 0
TapesOf e (tapes_item n) = TapesMean e n
TapesOf e _ = Unit {0}

-- an entry of an item: what the pass over declarations asks of it, and what X says of it
pub record ItemMeans (X : Entry → Item Span → Type 0) (e : Entry) (i : Item Span) (p : Span) : Type 0 where
  pub kind : e.first.kind ≡ 16 + number i
  pub place : place_of e.first ≡ p
  pub tapes : TapesOf e i
  pub more : X e i

-- an entry of a line
abbrev pub Means : (Entry → Item Span → Type 0) → Entry → Line Span → Type 0
Means X e blank_line = e.first.kind < 16
Means X e (comment_line c) = e.first.kind < 16
Means X e (error_line n p) = (e.first.kind ≡ 32 + n) × (place_of e.first ≡ p)
Means X e (item_line i p c) = ItemMeans X e i p

-- all entries, each with its line
pub data AllMean (X : Entry → Item Span → Type 0) (ts : List Token) : List Entry → List (Line Span) → Type 0 where
  no_lines : AllMean X ts [] []
  one_line : {e : Entry} {es : List Entry} {l : Line Span} {ls : List (Line Span)} → e.at < length ts → e ≡ entry_at ts e.at → Means X e l → AllMean X ts es ls → AllMean X ts (e ∷ es) (l ∷ ls)

pub records-append : (a b : List (A.Diagnostic Span)) → records_of (a ++ b) ≡ records_of a ++ records_of b
unfolding records_of
records-append [] b = refl
records-append (x ∷ a) b = ap (λ (l : List Diagnostic). record_of x ∷ l) (records-append a b)

number_low : (i : Item Span) → number i ≤ 11
unfolding number
number_low (machine_item x) = omega arith
number_low (kind_item x) = omega arith
number_low (input_item x) = omega arith
number_low (output_item x) = omega arith
number_low (tapes_item x) = omega arith
number_low (states_item x) = omega arith
number_low (input_alphabet_item x) = omega arith
number_low (tape_alphabet_item x) = omega arith
number_low (blank_item x) = omega arith
number_low (start_item x) = omega arith
number_low (final_item x) = omega arith
number_low (transition_item x) = omega arith

-- ---- failed lines
failed : (e : Entry) (n : ℕ) (p : Span) → e.first.kind ≡ 32 + n → place_of e.first ≡ p → line_error e.first ≡ record_of (A.diagnostic n p None) ∷ []
unfolding line_error record_of or_none
failed e n p k q =
    let c : e.first.kind - 32 ≡ n = omega arith in
    rw (le-leb 32 e.first.kind (omega arith)) (ap (λ (c : ℕ). error c (place_of e.first) ∷ []) c ∙ ap (λ (x : Span). error n x ∷ []) q)

module _ (X : Entry → Item Span → Type 0) (ts : List Token) where
  no_error : (e : Entry) (es : List Entry) → e.first.kind < 32 → line_errors (e ∷ es) ≡ line_errors es
  unfolding line_errors line_error
  no_error e es h = rw (lt-leb 32 e.first.kind h)

  pub line_errors_mean : (es : List Entry) (ls : List (Line Span)) → AllMean X ts es ls → line_errors es ≡ records_of (A.line_errors ls)
  unfolding line_errors A.line_errors records_of
  line_errors_mean [] [] no_lines = refl
  line_errors_mean [] (l ∷ ls) m = elim m [ ]
  line_errors_mean (e ∷ es) [] m = elim m [ ]
  line_errors_mean (e ∷ es) (blank_line ∷ ls) (one_line h q m r) = no_error e es (omega arith) ∙ line_errors_mean es ls r
  line_errors_mean (e ∷ es) (comment_line c ∷ ls) (one_line h q m r) = no_error e es (omega arith) ∙ line_errors_mean es ls r
  line_errors_mean (e ∷ es) (item_line i p c ∷ ls) (one_line h q m r) = no_error e es (omega (arith, m.kind, number_low i)) ∙ line_errors_mean es ls r
  line_errors_mean (e ∷ es) (error_line n p ∷ ls) (one_line h q m r) =
      ap (λ (l : List Diagnostic). l ++ line_errors es) (failed e n p m.0 m.1) ∙ ap (λ (l : List Diagnostic). record_of (A.diagnostic n p None) ∷ l) (line_errors_mean es ls r)

-- ---- declarations
-- the language's number of a name is an item's
declared-number : (i : Item Span) → number i < 11 → A.declaration i ≡ Some (number i)
unfolding number A.declaration
declared-number (machine_item x) h = refl
declared-number (kind_item x) h = refl
declared-number (input_item x) h = refl
declared-number (output_item x) h = refl
declared-number (tapes_item x) h = refl
declared-number (states_item x) h = refl
declared-number (input_alphabet_item x) h = refl
declared-number (tape_alphabet_item x) h = refl
declared-number (blank_item x) h = refl
declared-number (start_item x) h = refl
declared-number (final_item x) h = refl
declared-number (transition_item x) h = absurd (omega arith)

rule-number : (i : Item Span) → (number i < 11 → ⊥) → (A.declaration i ≡ None) × ((Columns.parts i).tapes ≡ None)
unfolding number A.declaration
rule-number (machine_item x) h = absurd (h (omega arith))
rule-number (kind_item x) h = absurd (h (omega arith))
rule-number (input_item x) h = absurd (h (omega arith))
rule-number (output_item x) h = absurd (h (omega arith))
rule-number (tapes_item x) h = absurd (h (omega arith))
rule-number (states_item x) h = absurd (h (omega arith))
rule-number (input_alphabet_item x) h = absurd (h (omega arith))
rule-number (tape_alphabet_item x) h = absurd (h (omega arith))
rule-number (blank_item x) h = absurd (h (omega arith))
rule-number (start_item x) h = absurd (h (omega arith))
rule-number (final_item x) h = absurd (h (omega arith))
rule-number (transition_item x) h = (refl, refl)

-- tapes above 255
not-tapes : (e : Entry) → (e.first.kind ≡ 20 → ⊥) → tapes_error e ≡ []
unfolding tapes_error
not-tapes e h = rw (ne_eqb e.first.kind 20 h)

tapes_by : (n : Located Span ℕ) (b : Bool) → leb n.value 255 ≡ b → A.tapes_error (Some n) ≡ elim b [ true ↦ [] | false ↦ A.diagnostic 9 n.place None ∷ [] ]
unfolding A.tapes_error
tapes_by n b e = ap (λ (b : Bool). elim b [ true ↦ [] | false ↦ A.diagnostic 9 n.place None ∷ [] ]) e

tapes_large : (e : Entry) (n : Located Span ℕ) → e.first.kind ≡ 20 → TapesMean e n → tapes_error e ≡ records_of (A.tapes_error (Some n))
unfolding tapes_error records_of record_of or_none
tapes_large e n k t =
    by_test_lem (leb n.value 255)
    (λ y.
    let low : ltb 255 (peek e.rest 1).value ≡ false = t.large ∙ le-ltb 255 n.value (leb-true n.value 255 y) in
    rw (eq-eqb e.first.kind 20 k, low) (ap records_of (sym (tapes_by n true y))))
    (λ x.
    let high : ltb 255 (peek e.rest 1).value ≡ true = t.large ∙ lt-ltb 255 n.value (leb-false n.value 255 x) in
    rw (eq-eqb e.first.kind 20 k, high) (ap (λ (p : Span). error 9 p ∷ []) t.place ∙ ap records_of (sym (tapes_by n false x))))

tapes_mean : (e : Entry) (i : Item Span) → e.first.kind ≡ 16 + number i → TapesOf e i → tapes_error e ≡ records_of (A.tapes_error (Columns.parts i).tapes)
unfolding number A.tapes_error records_of
tapes_mean e (machine_item x) k t = not-tapes e (λ z. omega arith)
tapes_mean e (kind_item x) k t = not-tapes e (λ z. omega arith)
tapes_mean e (input_item x) k t = not-tapes e (λ z. omega arith)
tapes_mean e (output_item x) k t = not-tapes e (λ z. omega arith)
tapes_mean e (tapes_item n) k t = tapes_large e n k t
tapes_mean e (states_item x) k t = not-tapes e (λ z. omega arith)
tapes_mean e (input_alphabet_item x) k t = not-tapes e (λ z. omega arith)
tapes_mean e (tape_alphabet_item x) k t = not-tapes e (λ z. omega arith)
tapes_mean e (blank_item x) k t = not-tapes e (λ z. omega arith)
tapes_mean e (start_item x) k t = not-tapes e (λ z. omega arith)
tapes_mean e (final_item x) k t = not-tapes e (λ z. omega arith)
tapes_mean e (transition_item x) k t = not-tapes e (λ z. omega arith)

-- the first declarations so far, as indices of entries and as places
pub record TableMeans (ts : List Token) (first : List ℕ) (before : List (Located Span (Item Span))) : Type 0 where
  pub size : length first ≡ 11
  pub none_yet : (k : ℕ) → k < 11 → A.declared_at k before ≡ None → ltb (get_or first k 0) (length ts) ≡ false
  pub declared : (k : ℕ) → k < 11 → (p : Span) → A.declared_at k before ≡ Some p → (ltb (get_or first k 0) (length ts) ≡ true) × (place_of (peek ts (get_or first k 0)) ≡ p)

-- one item more
declared_yes : (k : ℕ) (i : Located Span (Item Span)) (is : List (Located Span (Item Span))) → A.is_number k (A.declaration i.value) ≡ true → A.declared_at k (i ∷ is) ≡ Some i.place
unfolding A.declared_at
declared_yes k i is e = ap (λ (b : Bool). elim b [ true ↦ Some i.place | false ↦ A.declared_at k is ]) e

declared_no : (k : ℕ) (i : Located Span (Item Span)) (is : List (Located Span (Item Span))) → A.is_number k (A.declaration i.value) ≡ false → A.declared_at k (i ∷ is) ≡ A.declared_at k is
unfolding A.declared_at
declared_no k i is e = ap (λ (b : Bool). elim b [ true ↦ Some i.place | false ↦ A.declared_at k is ]) e

-- behind others: what was declared stays, a new name is declared here, another is not
declared-before : (k : ℕ) (is : List (Located Span (Item Span))) (i : Located Span (Item Span)) (p : Span) → A.declared_at k is ≡ Some p → A.declared_at k (is ++ i ∷ []) ≡ Some p
unfolding A.declared_at
declared-before k [] i p e = cc
declared-before k (j ∷ is) i p e =
    by_test_lem (A.is_number k (A.declaration j.value)) (λ y. declared_yes k j (is ++ i ∷ []) y ∙ sym (declared_yes k j is y) ∙ e)
    (λ n. declared_no k j (is ++ i ∷ []) n ∙ declared-before k is i p (sym (declared_no k j is n) ∙ e))

declared_here : (k : ℕ) (is : List (Located Span (Item Span))) (i : Located Span (Item Span)) → A.declared_at k is ≡ None → A.is_number k (A.declaration i.value) ≡ true
    → A.declared_at k (is ++ i ∷ []) ≡ Some i.place
declared_here k [] i e y = declared_yes k i [] y
declared_here k (j ∷ is) i e y =
    by_test_lem (A.is_number k (A.declaration j.value)) (λ z. let q : Some j.place ≡ None = sym (declared_yes k j is z) ∙ e in absurd (let o : ◌≡◌ {A = ℕ} 0 1 = cc in omega arith))
    (λ n. declared_no k j (is ++ i ∷ []) n ∙ declared_here k is i (sym (declared_no k j is n) ∙ e) y)

declared-other : (k : ℕ) (is : List (Located Span (Item Span))) (i : Located Span (Item Span)) → A.is_number k (A.declaration i.value) ≡ false → A.declared_at k (is ++ i ∷ []) ≡ A.declared_at k is
unfolding A.declared_at
declared-other k [] i n = declared_no k i [] n
declared-other k (j ∷ is) i n =
    ap (λ (o : Option Span). elim (A.is_number k (A.declaration j.value)) [ true ↦ Some j.place | false ↦ o ]) (declared-other k is i n)

module _ (X : Entry → Item Span → Type 0) (ts : List Token) (e : Entry) (low : e.at < length ts) (here : e ≡ entry_at ts e.at) (i : Item Span) (p : Span) (m : ItemMeans X e i p) where
  abbrev found : Located Span (Item Span)
  found = record { value = i; place = p }

  first_is : peek ts e.at ≡ e.first
  first_is = sym (ap (λ (e : Entry). e.first) here)

  -- a declaration of the name k
  module _ (few : number i < 11) where
    name_is : name_of e.first ≡ number i
    name_is = omega (arith, m.kind)

    declares_it : declares e.first ≡ true
    unfolding declares
    declares_it = rw (le-leb 16 e.first.kind (omega (arith, m.kind)), lt-ltb e.first.kind 27 (omega (arith, m.kind)))

    same_number : (k : ℕ) → A.is_number k (A.declaration i) ≡ eqb (number i) k
    same_number k = ap (A.is_number k) (declared-number i few)

  -- a rule
  module _ (rule : number i < 11 → ⊥) where
    declares-none : declares e.first ≡ false
    unfolding declares
    declares-none = rw (le-leb 16 e.first.kind (omega (arith, m.kind)), le-ltb e.first.kind 27 (omega (arith, m.kind)))

  -- the first declarations with one item more
  module _ (first : List ℕ) (before : List (Located Span (Item Span))) (t : TableMeans ts first before) where
    -- a line that declares nothing changes nothing
    table_same : ((k : ℕ) → k < 11 → A.declared_at k before ≡ None → A.is_number k (A.declaration i) ≡ false) → TableMeans ts first (before ++ found ∷ [])
    table_same other = record {
      size = t.size;
      none_yet = λ k h n. t.none_yet k h (go k h n (A.declared_at k before) refl);
      declared = λ k h q d. t.declared k h q (come k h q d (A.declared_at k before) refl);
    }
      where
        go : (k : ℕ) → k < 11 → A.declared_at k (before ++ found ∷ []) ≡ None → (o : Option Span) → A.declared_at k before ≡ o → A.declared_at k before ≡ None
        go k h n (Some q) e = absurd (let z : Some q ≡ None = sym (declared-before k before found q e) ∙ n in let o : ◌≡◌ {A = ℕ} 0 1 = cc in omega arith)
        go k h n None e = e

        come : (k : ℕ) → k < 11 → (q : Span) → A.declared_at k (before ++ found ∷ []) ≡ Some q → (o : Option Span) → A.declared_at k before ≡ o → A.declared_at k before ≡ Some q
        come k h q d (Some r) e = e ∙ sym (declared-before k before found r e) ∙ d
        come k h q d None e = absurd (let z : None ≡ Some q = sym (declared-other k before found (other k h e) ∙ e) ∙ d in let o : ◌≡◌ {A = ℕ} 0 1 = cc in omega arith)

    module _ (few : number i < 11) where
      k₀ : ℕ
      k₀ = number i

      -- the name was declared before
      table_again : (q : Span) → A.declared_at (number i) before ≡ Some q → TableMeans ts first (before ++ found ∷ [])
      table_again q d = table_same (λ k h n. same_number few k ∙ ne_eqb (number i) k (λ z. let c : Some q ≡ None = sym d ∙ ap (λ (k : ℕ). A.declared_at k before) z ∙ n in let o : ◌≡◌ {A = ℕ} 0 1 = cc in omega arith))

      -- the name is declared here for the first time
      table_new : A.declared_at (number i) before ≡ None → TableMeans ts (set first (number i) e.at) (before ++ found ∷ [])
      table_new none_before = record {
        size = length-set first (number i) e.at ∙ t.size;
        none_yet = λ k h n. by_test_lem (eqb (number i) k)
            (λ y. absurd (let c : Some p ≡ None = sym (new_here k y) ∙ n in let o : ◌≡◌ {A = ℕ} 0 1 = cc in omega arith))
            (λ x. ap (λ (n : ℕ). ltb n (length ts)) (old k x) ∙ t.none_yet k h (sym (old_name k x) ∙ n));
        declared = λ k h q d. by_test_lem (eqb (number i) k)
            (λ y.
            let c : Some p ≡ Some q = sym (new_here k y) ∙ d in
            let pq : p ≡ q = cc in
            let v : get_or (set first (number i) e.at) k 0 ≡ e.at = ap (λ (k : ℕ). get_or (set first (number i) e.at) k 0) (sym (eqb-true (number i) k y)) ∙ get_or-set_same first (number i) e.at 0 (omega (arith, t.size)) in
            (ap (λ (n : ℕ). ltb n (length ts)) v ∙ lt-ltb e.at (length ts) low, ap (λ (n : ℕ). place_of (peek ts n)) v ∙ ap place_of first_is ∙ m.place ∙ pq))
            (λ x.
            let r = t.declared k h q (sym (old_name k x) ∙ d) in
            (ap (λ (n : ℕ). ltb n (length ts)) (old k x) ∙ r.0, ap (λ (n : ℕ). place_of (peek ts n)) (old k x) ∙ r.1));
      }
        where
          new_here : (k : ℕ) → eqb (number i) k ≡ true → A.declared_at k (before ++ found ∷ []) ≡ Some p
          new_here k y =
              let z : number i ≡ k = eqb-true (number i) k y in
              declared_here k before found (ap (λ (k : ℕ). A.declared_at k before) (sym z) ∙ none_before) (same_number few k ∙ y)

          old_name : (k : ℕ) → eqb (number i) k ≡ false → A.declared_at k (before ++ found ∷ []) ≡ A.declared_at k before
          old_name k x = declared-other k before found (same_number few k ∙ x)

          old : (k : ℕ) → eqb (number i) k ≡ false → get_or (set first (number i) e.at) k 0 ≡ get_or first k 0
          old k x = get_or-set_other first (number i) k e.at 0 (λ z. eqb-false (number i) k x (sym z))

      declare_by : (b : Bool) → ltb (get_or first (number i) 0) (length ts) ≡ b → declare (length ts) first e ≡ cond b first (set first (number i) e.at)
      unfolding declare
      declare_by b y = rw (declares_it few, name_is few, y)

      error_by : (b : Bool) → ltb (get_or first (number i) 0) (length ts) ≡ b
          → declaration_error ts first e ≡ cond b (with_related (error 11 (place_of e.first)) (place_of (peek ts (get_or first (number i) 0))) ∷ []) (tapes_error e)
      unfolding declaration_error
      error_by b y = rw (declares_it few, name_is few, y)

      language_error : (o : Option Span) → A.declared_at (number i) before ≡ o
          → A.declaration_error before found ≡ elim o [ Some q ↦ A.diagnostic 11 p (Some q) ∷ [] | None ↦ A.tapes_error (Columns.parts i).tapes ]
      unfolding A.declaration_error A.earlier
      language_error o d =
          ap (λ (x : Option ℕ). elim (A.earlier x before) [ Some q ↦ A.diagnostic 11 p (Some q) ∷ [] | None ↦ A.tapes_error (Columns.parts i).tapes ]) (declared-number i few)
          ∙ ap (λ (o : Option Span). elim o [ Some q ↦ A.diagnostic 11 p (Some q) ∷ [] | None ↦ A.tapes_error (Columns.parts i).tapes ]) d

      few_table : TableMeans ts (declare (length ts) first e) (before ++ found ∷ [])
      few_table = go (A.declared_at (number i) before) refl
        where
          go : (o : Option Span) → A.declared_at (number i) before ≡ o → TableMeans ts (declare (length ts) first e) (before ++ found ∷ [])
          go (Some q) d = subst (λ (f : List ℕ). TableMeans ts f (before ++ found ∷ [])) (sym (declare_by true (t.declared (number i) few q d).0)) (table_again q d)
          go None d = subst (λ (f : List ℕ). TableMeans ts f (before ++ found ∷ [])) (sym (declare_by false (t.none_yet (number i) few d))) (table_new d)

      few_error : declaration_error ts first e ≡ records_of (A.declaration_error before found)
      unfolding records_of record_of or_none
      few_error = go (A.declared_at (number i) before) refl
        where
          go : (o : Option Span) → A.declared_at (number i) before ≡ o → declaration_error ts first e ≡ records_of (A.declaration_error before found)
          go (Some q) d =
              let r = t.declared (number i) few q d in
              error_by true r.0 ∙ ap (λ (x : Span). with_related (error 11 x) (place_of (peek ts (get_or first (number i) 0))) ∷ []) m.place
              ∙ ap (λ (x : Span). with_related (error 11 p) x ∷ []) r.1 ∙ ap records_of (sym (language_error (Some q) d))
          go None d = error_by false (t.none_yet (number i) few d) ∙ tapes_mean e i m.kind m.tapes ∙ ap records_of (sym (language_error None d))

    module _ (rule : number i < 11 → ⊥) where
      rule_table : TableMeans ts (declare (length ts) first e) (before ++ found ∷ [])
      unfolding declare
      rule_table = rw (declares-none rule) (table_same (λ k h n. ap (A.is_number k) (rule-number i rule).0))

      rule_error_lem : declaration_error ts first e ≡ records_of (A.declaration_error before found)
      unfolding declaration_error A.declaration_error A.earlier A.tapes_error records_of
      rule_error_lem = let r = rule-number i rule in rw (declares-none rule) (sym (ap records_of (language r)))
        where
          language : (A.declaration i ≡ None) × ((Columns.parts i).tapes ≡ None) → A.declaration_error before found ≡ []
          language r =
              ap (λ (x : Option ℕ). elim (A.earlier x before) [ Some q ↦ A.diagnostic 11 p (Some q) ∷ [] | None ↦ A.tapes_error (Columns.parts i).tapes ]) r.0
              ∙ ap A.tapes_error r.1

    item_table : TableMeans ts (declare (length ts) first e) (before ++ found ∷ [])
    item_table = by_test_lem (ltb (number i) 11) (λ y. few_table (ltb-true (number i) 11 y)) (λ n. rule_table (λ h. let z = ltb-false (number i) 11 n in omega arith))

    item-error : declaration_error ts first e ≡ records_of (A.declaration_error before found)
    item-error = by_test_lem (ltb (number i) 11) (λ y. few_error (ltb-true (number i) 11 y)) (λ n. rule_error_lem (λ h. let z = ltb-false (number i) 11 n in omega arith))

-- a line that holds no item
other-line : (ts : List Token) (first : List ℕ) (e : Entry) → declares e.first ≡ false → (declaration_error ts first e ≡ []) × (declare (length ts) first e ≡ first)
unfolding declaration_error declare
other-line ts first e h = (rw h, rw h)

declares_low : (e : Entry) → e.first.kind < 16 → declares e.first ≡ false
unfolding declares
declares_low e h = rw (lt-leb 16 e.first.kind h)

declares_high : (e : Entry) (n : ℕ) → e.first.kind ≡ 32 + n → declares e.first ≡ false
unfolding declares
declares_high e n h = rw (le-leb 16 e.first.kind (omega arith), le-ltb e.first.kind 27 (omega arith))

module _ (X : Entry → Item Span → Type 0) (ts : List Token) where
  passed : (first : List ℕ) (e : Entry) (es : List Entry) → declares e.first ≡ false → declaration_errors ts first (e ∷ es) ≡ declaration_errors ts first es
  unfolding declaration_errors
  passed first e es h =
      let o = other-line ts first e h in
      ap (λ (l : List Diagnostic). l ++ declaration_errors ts (declare (length ts) first e) es) o.0 ∙ ap (λ (f : List ℕ). declaration_errors ts f es) o.1

  pub declarations_mean : (first : List ℕ) (before : List (Located Span (Item Span))) (es : List Entry) (ls : List (Line Span)) → AllMean X ts es ls → TableMeans ts first before
      → declaration_errors ts first es ≡ records_of (A.declaration_errors before (A.items ls))
  unfolding declaration_errors A.declaration_errors A.items records_of
  declarations_mean first before [] [] no_lines t = refl
  declarations_mean first before [] (l ∷ ls) m t = elim m [ ]
  declarations_mean first before (e ∷ es) [] m t = elim m [ ]
  declarations_mean first before (e ∷ es) (blank_line ∷ ls) (one_line h q m r) t = passed first e es (declares_low e m) ∙ declarations_mean first before es ls r t
  declarations_mean first before (e ∷ es) (comment_line c ∷ ls) (one_line h q m r) t = passed first e es (declares_low e m) ∙ declarations_mean first before es ls r t
  declarations_mean first before (e ∷ es) (error_line n p ∷ ls) (one_line h q m r) t = passed first e es (declares_high e n m.0) ∙ declarations_mean first before es ls r t
  declarations_mean first before (e ∷ es) (item_line i p c ∷ ls) (one_line h q m r) t =
      let f : Located Span (Item Span) = record { value = i; place = p } in
      ap (λ (l : List Diagnostic). l ++ declaration_errors ts (declare (length ts) first e) es) (item-error X ts e h q i p m first before t)
      ∙ ap (λ (l : List Diagnostic). records_of (A.declaration_error before f) ++ l) (declarations_mean (declare (length ts) first e) (before ++ f ∷ []) es ls r (item_table X ts e h q i p m first before t))
      ∙ sym (records-append (A.declaration_error before f) (A.declaration_errors (before ++ f ∷ []) (A.items ls)))

-- no name is declared
pub table_empty : (ts : List Token) → length ts ≤ 0xffffffff → TableMeans ts undeclared []
unfolding A.declared_at
table_empty ts h = record {
  size = refl;
  none_yet = λ k l e. le-ltb (get_or undeclared k 0) (length ts) (omega (arith, get_or-replicate {A = ℕ} 11 k 0xffffffff 0 l));
  declared = λ k l p e. absurd (let o : ◌≡◌ {A = ℕ} 0 1 = cc in omega arith);
}
