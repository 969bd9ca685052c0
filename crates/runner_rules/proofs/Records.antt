-- The records are gone through from the first on, and each is stored for its number unless something is said of that. What is
-- said so far, and where the first of those that are left begins, is of each number what is to be said of it.
use Rattle.std.proofs.Common.{◌≡◌, ℕ, suc, ◌+◌, ◌-◌, ◌*◌, ◌/◌, ◌%◌, ◌<◌, ◌≤◌, true, false, List, [], ◌∷◌, length, get_or, take, drop, eqb, refl, sym, ap, ◌∙◌, subst, arith, drop-drop, get_or-drop, eq-eqb, eqb-true}
use mathlib.Core.Bool.{false≢true}
use Rattle.std.specs.List.{AllByRecursion}
use Rattle.lexer.specs.Tokens.{Span}
use Rattle.language.specs.Agreement.{at, records}
use Rattle.language.proofs.Every.{by_test}
use Rattle.sheet_view.specs.Rules.{length_of, from_of}
use Rattle.sheet_view.proofs.Records.{records-start, records-end}
use Rattle.sheet_view.proofs.Views.{length_is}
use Rattle.runner_rules.specs.declared.firsts.First.{First}
use Rattle.runner_rules.specs.declared.firsts.First.TheVariants.{Final, NoRule, At}
use Rattle.runner_rules.specs.Firsts.{first_in, first_at, number_in, HasNumber, first_record, or_record, end_of, Says, SaysRules}
use Rattle.runner_rules.proofs.Row.{says_place}

-- ---- records

-- the record that begins at a word
abbrev pub record_at : List ℕ → ℕ → List ℕ
record_at words j = take (at words j) (drop j words)

pub first_word : (j : ℕ) (words : List ℕ) → at (drop j words) 0 ≡ at words j
first_word j words = get_or-drop j words 0 0 ∙ ap (at words) (let e : j + 0 ≡ j = omega arith in e)

-- the first of some records, and those behind it
pub records_split : (n j : ℕ) (words : List ℕ)
    → records (suc n) (drop j words) ≡ record_at words j ∷ records n (drop (j + at words j) words)
unfolding records
records_split n j words = rw (first_word j words, drop-drop (at words j) j words)

pub record_length : (j : ℕ) (words : List ℕ) → length_of (record_at words j) ≡ at words j
record_length j words =
    ap (λ n. at (take n (drop j words)) 0) (sym (first_word j words)) ∙ length_is (drop j words) ∙ first_word j words

-- ---- what is said

or_nothing : (f : First) → or_record f NoRule ≡ f
or_nothing Final = refl
or_nothing NoRule = refl
or_nothing (At i) = refl

or_said : (f g h : First) → (f ≡ NoRule → ⊥) → or_record f g ≡ or_record f h
or_said Final g h n = refl
or_said NoRule g h n = absurd (n refl)
or_said (At i) g h n = refl

module _ (numbers words : List ℕ) (n : ℕ) (old : List ℕ) where
  -- the records from the i-th on, which begins at a word
  abbrev left : ℕ → ℕ → List (List ℕ)
  left i j = records (n - i) (drop j words)

  -- how far the row has come: i records are gone through, and the next one begins at a word
  pub record Marking (row : List ℕ) (i j : ℕ) : Type 0 where
    pub size : length row ≡ length old
    pub low : j ≤ 4294967295 * i
    pub numbered : AllByRecursion (HasNumber numbers (length old)) (left i j)
    pub end : end_of j (left i j) ≡ end_of 0 (records n words)
    pub first : (k : ℕ) → 2 * k + 1 < length old
        → or_record (first_at row k) (first_record numbers k j (left i j)) ≡ or_record (first_at old k) (first_record numbers k 0 (records n words))

  pub marking_start : AllByRecursion (HasNumber numbers (length old)) (records n words) → Marking old 0 0
  marking_start h = record {
    size = refl;
    low = omega arith;
    numbered = rw (records-start n words) h;
    end = ap (end_of 0) (records-start n words);
    first = λ k room. ap (λ l. or_record (first_at old k) (first_record numbers k 0 l)) (records-start n words);
  }

  -- all are gone through
  module _ (row : List ℕ) (i j : ℕ) (m : Marking row i j) (h : n ≤ i) where
    none : left i j ≡ []
    none = records-end n i (drop j words) h

    pub marked : SaysRules numbers (records n words) old row
    unfolding first_record
    marked k room = sym (or_nothing (first_at row k)) ∙ ap (λ l. or_record (first_at row k) (first_record numbers k j l)) (sym none) ∙ m.first k room

    pub marked_end : j ≡ end_of 0 (records n words)
    unfolding end_of
    marked_end = ap (end_of j) (sym none) ∙ m.end

  -- one more, for the name at a place
  module _ (row : List ℕ) (i j : ℕ) (m : Marking row i j) (h : i < n) (ws : List ℕ) (is : ws ≡ record_at words j)
      (place : Span) (from : place ≡ from_of ws) where
    abbrev number : ℕ
    number = get_or numbers place.start 0

    number_is : number ≡ number_in numbers ws
    number_is = ap (λ p. get_or numbers p.start 0) from

    abbrev behind : ℕ → List (List ℕ)
    behind l = left (i + 1) (j + l)

    next : left i j ≡ ws ∷ behind (at words j)
    next =
        let e : n - i ≡ suc (n - (i + 1)) = omega arith in
        ap (λ k. records k (drop j words)) e ∙ records_split (n - (i + 1)) j words ∙ ap (λ r. r ∷ behind (at words j)) (sym is)

    abbrev Here : Type 0
    Here = HasNumber numbers (length old) ws × AllByRecursion (HasNumber numbers (length old)) (behind (at words j))

    here : Here
    here = subst (AllByRecursion (HasNumber numbers (length old))) next m.numbered

    pub start_inside : place.start < length numbers
    start_inside = subst (λ (p : Span). p.start < length numbers) (sym from) here.0.0

    pub number_inside : 2 * number + 1 < length row
    number_inside = omega (arith, here.0.1, m.size, number_is)

    module _ (l : ℕ) (length_is : l ≡ length_of ws) (small : l ≤ 4294967295) where
      width : l ≡ at words j
      width = length_is ∙ ap (λ r. at r 0) is ∙ record_length j words

      next_is : left i j ≡ ws ∷ behind l
      next_is = next ∙ ap (λ n. ws ∷ behind n) (sym width)

      -- of another number the record says nothing
      passed : (k : ℕ) → eqb k number ≡ false → first_record numbers k j (ws ∷ behind l) ≡ first_record numbers k (j + l) (behind l)
      unfolding first_record
      passed k e =
          let f : eqb k (number_in numbers ws) ≡ false = ap (eqb k) (sym number_is) ∙ e in
          rw (first_record, f) (ap (λ n. first_record numbers k (j + n) (behind l)) (sym length_is))

      found : (k : ℕ) → eqb k number ≡ true → first_record numbers k j (ws ∷ behind l) ≡ At j
      unfolding first_record
      found k e =
          let f : eqb k (number_in numbers ws) ≡ true = ap (eqb k) (sym number_is) ∙ e in
          rw (first_record, f) refl

      -- a row that says of each number what is to be said goes on
      goes_on : (new : List ℕ) → length new ≡ length row
          → ((k : ℕ) → or_record (first_at new k) (first_record numbers k (j + l) (behind l)) ≡ or_record (first_at row k) (first_record numbers k j (ws ∷ behind l)))
          → Marking new (i + 1) (j + l)
      unfolding end_of
      goes_on new size first = record {
        size = size ∙ m.size;
        low = omega (arith, m.low, small);
        numbered = subst (λ n. AllByRecursion (HasNumber numbers (length old)) (behind n)) (sym width) here.1;
        end = ap (λ n. end_of (j + n) (behind l)) length_is ∙ ap (end_of j) (sym next_is) ∙ m.end;
        first = λ k room. first k ∙ ap (λ r. or_record (first_at row k) (first_record numbers k j r)) (sym next_is) ∙ m.first k room;
      }

      -- the record is stored where nothing is said of its number
      pub marking_put : (new : List ℕ) → n ≤ 4294967295 → length new ≡ length row → first_at row number ≡ NoRule
          → Says number (first_in (j % 4294967296) (j / 4294967296)) row new → Marking new (i + 1) (j + l)
      marking_put new few size free says =
          let place : first_in (j % 4294967296) (j / 4294967296) ≡ At j = says_place j (omega (arith, m.low, h, few)) in
          goes_on new size (λ k. by_test (eqb k number)
          (λ e.
          let q : k ≡ number = eqb-true k number e in
          let a : first_at new k ≡ At j = ap (first_at new) q ∙ says.here ∙ place in
          let b : first_at row k ≡ NoRule = ap (first_at row) q ∙ free in
          rw (a, b) (sym (found k e)))
          (λ e.
          let a : first_at new k ≡ first_at row k = says.others k (λ q. false≢true (sym e ∙ eq-eqb k number q)) in
          rw (a, passed k e) refl))

      -- and nothing where there is something
      pub marking_keep : (first_at row number ≡ NoRule → ⊥) → Marking row (i + 1) (j + l)
      marking_keep said = goes_on row refl (λ k. by_test (eqb k number)
          (λ e. or_said (first_at row k) _ _ (λ q. said (ap (first_at row) (sym (eqb-true k number e)) ∙ q)))
          (λ e. ap (or_record (first_at row k)) (sym (passed k e))))
