-- Laws of the pass over declarations.
use mathlib.Core.Path.{◌≡◌, refl, sym, ap, subst, ◌∙◌}
use mathlib.Core.Bool.{true, false, cond}
use mathlib.Core.List.{List, [], ◌∷◌}
use Prim.Native.Nat.{ℕ, suc, ◌+◌, ◌-◌, ◌*◌, ◌≤◌, ◌<◌, ◌^◌}
use native.Mathlib.Omega.{arith}
use borrow.Author.Tests.{le-leb, lt-leb, lt-ltb, le-ltb, eq-eqb, ne_eqb}
use lib.Dec.{ltb, eqb}
use lib.ListN.{length, get_or, set, drop}
use lib.Seq.{get_or-drop}
use Rattle.diag.specs.declared.Span.{Span}
use Rattle.diag.specs.declared.Diagnostic.{Diagnostic}
use Rattle.diag.specs.declared.log.Log.{Log}
use Rattle.diag.specs.Log.{error, with_related}
use Rattle.diag.specs.Appends.{Appends}
use Rattle.tokens.specs.declared.Token.{Token}
use Rattle.parser.specs.Row.{peek, ended}
use Rattle.parser.specs.Lines.{line_length}
use Rattle.assembler.specs.Rows.{rows, place_of}
use Rattle.assembler.specs.Entries.{Entry, entry_at, behind, entries}
use Rattle.assembler.specs.Feeds.{Fed}
use Rattle.assembler.specs.Declarations.{line, declares, name_of, declare, declarations, tapes_error, declaration_error, declaration_errors}
use Rattle.std.specs.Prelude.{Option, Some, None}
use Rattle.assembler.proofs.FirstLines.{there_is, there-inside, none-outside}
use Rattle.assembler.proofs.Rows.{length-rows, entries_at, entries-step, entries-end, fed_next}
use Rattle.assembler.proofs.Passes.{at_most_one, Passing, passing_start, passing_step, passing_end, passing_room}

-- ---- the value of `tapes`
module _ (ts : List Token) (i : ℕ) (t : Token) (at : t ≡ peek ts i) where
  pub tapes-other : (t.kind ≡ 20 → ⊥) → [] ≡ tapes_error (entry_at ts i)
  unfolding tapes_error
  tapes-other h = rw (← at, ne_eqb t.kind 20 h)

  module _ (v : Token) (third : v ≡ peek ts (i + 2)) where
    value-behind : peek (drop (suc i) ts) 1 ≡ v
    value-behind = let e : suc i + 1 ≡ i + 2 = omega arith in get_or-drop (suc i) ts 1 ended ∙ ap (peek ts) e ∙ sym third

    pub tapes_few : t.kind ≡ 20 → v.value ≤ 255 → [] ≡ tapes_error (entry_at ts i)
    unfolding tapes_error
    tapes_few h g = rw (← at, eq-eqb t.kind 20 h, value-behind, le-ltb 255 v.value g)

    pub tapes_many : (p : Span) (d : Diagnostic) → t.kind ≡ 20 → 255 < v.value → p ≡ place_of v → d ≡ error 9 p → d ∷ [] ≡ tapes_error (entry_at ts i)
    unfolding tapes_error
    tapes_many p d h g q r = rw (← at, eq-eqb t.kind 20 h, value-behind, lt-ltb 255 v.value g) (ap (λ (d : Diagnostic). d ∷ []) (r ∙ ap (error 9) q))

-- ---- a name declared again
-- ---- one line
module _ (t : Token) where
  pub declares_low : t.kind < 16 → declares t ≡ false
  unfolding declares
  declares_low h = rw (lt-leb 16 t.kind h)

  pub declares_high : (k : ℕ) → 16 ≤ t.kind → k ≡ t.kind - 16 → 11 ≤ k → declares t ≡ false
  unfolding declares
  declares_high k h e g = rw (le-leb 16 t.kind h, le-ltb t.kind 27 (omega arith))

  pub declares-name : (k : ℕ) → 16 ≤ t.kind → k ≡ t.kind - 16 → k < 11 → declares t ≡ true
  unfolding declares
  declares-name k h e g = rw (le-leb 16 t.kind h, lt-ltb t.kind 27 (omega arith))

-- the first declarations
module _ (ts : List Token) (i : ℕ) (t : Token) (at : t ≡ peek ts i) (n : ℕ) (first : List ℕ) where
  none-declared : declares t ≡ false → first ≡ declare n first (entry_at ts i)
  unfolding declare
  none-declared e = rw (← at, e)

  pub declare_low : t.kind < 16 → first ≡ declare n first (entry_at ts i)
  declare_low h = none-declared (declares_low t h)

  module _ (k : ℕ) (enough : 16 ≤ t.kind) (name : k ≡ t.kind - 16) where
    pub declare_high : 11 ≤ k → first ≡ declare n first (entry_at ts i)
    declare_high h = none-declared (declares_high t k enough name h)

    module _ (low : k < 11) (o : Option ℕ) (told : o ≡ line n (get_or first k 0)) where
      pub declare_again : (f : ℕ) → o ≡ Some f → (first' : List ℕ) → first' ≡ first → first' ≡ declare n first (entry_at ts i)
      unfolding declare
      declare_again f there first' e = e ∙ rw (← at, declares-name t k enough name low, ← name, lt-ltb (get_or first k 0) n (there-inside n (get_or first k 0) told there))

      pub declare-first : o ≡ None → (first' : List ℕ) → first' ≡ set first k i → first' ≡ declare n first (entry_at ts i)
      unfolding declare
      declare-first none first' e = e ∙ rw (← at, declares-name t k enough name low, ← name, le-ltb (get_or first k 0) n (none-outside n (get_or first k 0) told none))

-- the diagnostics
module _ (ts : List Token) (i : ℕ) (t : Token) (at : t ≡ peek ts i) (first : List ℕ) where
  none_wrong : declares t ≡ false → [] ≡ declaration_error ts first (entry_at ts i)
  unfolding declaration_error
  none_wrong e = rw (← at, e)

  pub wrong_low : t.kind < 16 → [] ≡ declaration_error ts first (entry_at ts i)
  wrong_low h = none_wrong (declares_low t h)

  module _ (k : ℕ) (enough : 16 ≤ t.kind) (name : k ≡ t.kind - 16) where
    pub wrong_high : 11 ≤ k → [] ≡ declaration_error ts first (entry_at ts i)
    wrong_high h = none_wrong (declares_high t k enough name h)

    module _ (low : k < 11) (n : ℕ) (o : Option ℕ) (told : o ≡ line n (get_or first k 0)) (all : length ts ≡ n) where
      pub wrong_again : (f : ℕ) → o ≡ Some f → with_related (error 11 (place_of t)) (place_of (peek ts f)) ∷ [] ≡ declaration_error ts first (entry_at ts i)
      unfolding declaration_error
      wrong_again f there =
          rw (
            ← at,
            declares-name t k enough name low,
            ← name,
            all,
            lt-ltb (get_or first k 0) n (there-inside n (get_or first k 0) told there),
            ← there_is n (get_or first k 0) told there,
          )

      pub wrong_first : o ≡ None → tapes_error (entry_at ts i) ≡ declaration_error ts first (entry_at ts i)
      unfolding declaration_error
      wrong_first none = rw (← at, declares-name t k enough name low, ← name, all, le-ltb (get_or first k 0) n (none-outside n (get_or first k 0) told none))

pub one_wrong : (ts : List Token) (first : List ℕ) (e : Entry) → length (declaration_error ts first e) ≤ 1
unfolding declaration_error tapes_error
one_wrong ts first e =
    let v : Token = peek e.rest 1 in
    let f : ℕ = get_or first (name_of e.first) 0 in
    let high : List Diagnostic = error 9 (place_of v) ∷ [] in
    let again : List Diagnostic = with_related (error 11 (place_of e.first)) (place_of (peek ts f)) ∷ [] in
    at_most_one (declares e.first) (cond (ltb f (length ts)) again (tapes_error e)) []
    (at_most_one (ltb f (length ts)) again (tapes_error e) (omega arith)
    (at_most_one (eqb e.first.kind 20) (cond (ltb 255 v.value) high []) [] (at_most_one (ltb 255 v.value) high [] (omega arith) (omega arith)) (omega arith)))
    (omega arith)

-- ---- all lines: the pass has come to the line at the index i
pub record Declaring (count : ℕ) (work : List ℕ) (last : List ℕ) (all : List Diagnostic) (l₀ : Log) (first : List ℕ) (l : Log) (i : ℕ) : Type 0 where
  pub declared : declarations count first (entries_at (rows count work) i) ≡ last
  pub passing : Passing (rows count work) (declaration_errors (rows count work) first) all l₀ l i

pub declaring_start : (count : ℕ) (work first : List ℕ) (l : Log) → Fed (rows count work)
    → Declaring count work (declarations count first (entries (rows count work))) (declaration_errors (rows count work) first (entries (rows count work))) l first l 0
unfolding entries
declaring_start count work first l fed = record { declared = refl; passing = passing_start (rows count work) (declaration_errors (rows count work) first) l fed }

module _ (count : ℕ) (work last : List ℕ) (all : List Diagnostic) (l₀ : Log) (first : List ℕ) (l : Log) (i : ℕ) (d : Declaring count work last all l₀ first l i) (room : 4 * count ≤ length work) where
  pub declaring_on : (first' : List ℕ) (l' : Log) (j : ℕ) → i < count → first' ≡ declare count first (entry_at (rows count work) i)
      → Appends l l' (declaration_error (rows count work) first (entry_at (rows count work) i)) → j ≡ i + 1 + line_length (drop i (rows count work))
      → Declaring count work last all l₀ first' l' j
  unfolding declarations declaration_errors
  declaring_on first' l' j h ef ew z =
      let ts : List Token = rows count work in
      let many : length ts ≡ count = length-rows count work room in
      let here : i < length ts = omega arith in
      let e : Entry = entry_at ts i in
      let next : i + 1 + behind i (peek ts i) ≡ j = fed_next ts i d.passing.fed here j z in
      let ef' : declare (length ts) first e ≡ first' = ap (λ (c : ℕ). declare c first e) many ∙ sym ef in
      let lines : entries_at ts i ≡ e ∷ entries_at ts j = entries-step ts i here ∙ ap (λ (j : ℕ). e ∷ entries_at ts j) next in
      record {
        declared = ap (λ (f : List ℕ). declarations count f (entries_at ts j)) ef ∙ ap (declarations count first) (sym lines) ∙ d.declared;
        passing = subst (λ (f : List ℕ). Passing ts (declaration_errors ts f) all l₀ l' j) ef'
            (subst (λ (j : ℕ). Passing ts (declaration_errors ts (declare (length ts) first e)) all l₀ l' j) next
            (passing_step ts all l₀ l i (declaration_errors ts first) (declaration_errors ts (declare (length ts) first e)) (declaration_error ts first e) l' d.passing here (λ es. refl)
            (one_wrong ts first e) ew));
      }

  pub declared-end : count ≤ i → first ≡ last
  unfolding declarations
  declared-end h = sym (ap (declarations count first) (entries-end (rows count work) i (omega (arith, length-rows count work room)))) ∙ d.declared

  pub declaring_end : count ≤ i → Appends l₀ l all
  unfolding declaration_errors
  declaring_end h =
      passing_end (rows count work) all l₀ l i (declaration_errors (rows count work) first) d.passing (omega (arith, length-rows count work room)) refl

  pub declaring_room : i < count → l₀.count + count < 2 ^ 64 → l.count + 1 < 2 ^ 64
  declaring_room h g = passing_room (rows count work) all l₀ l i (declaration_errors (rows count work) first) count d.passing h g
