-- Laws of the marks: a word of scratch for each first equal word says whether a name is in Q and where F lists it first.
use mathlib.Core.Path.{◌≡◌, refl, sym, ap, ◌∙◌}
use mathlib.Core.Bool.{Bool, true, false, cond}
use mathlib.Core.List.{List, [], ◌∷◌, ◌++◌}
use Rattle.std.specs.Prelude.{Option, None, Some}
use Prim.Native.Nat.{ℕ, ◌+◌, ◌-◌, ◌≤◌, ◌<◌}
use native.Mathlib.Omega.{arith}
use borrow.Author.Tests.{eq-eqb, ne_eqb}
use lib.Dec.{eqb}
use lib.ListN.{length, get_or, take, set, replicate, length-set, length-replicate, get_or-replicate, get_or-append}
use lib.Seq.{get_or-take, get_or-set_same, get_or-set_other, take-set-le, length-take-le}
use Rattle.diag.proofs.Cases.{by_test_lem}
use Rattle.diag.specs.Log.{error, with_related}
use Rattle.lexer.specs.Text.{same}
use Rattle.tokens.specs.declared.Token.{Token}
use Rattle.parser.specs.Row.{peek}
use Rattle.assembler.specs.Rows.{rows, place_of}
use Rattle.assembler.specs.Names.{same_name, is_word, first_equal}
use Rattle.assembler.specs.Finals.{listed, unknown_error, final_error, mark_by, mark_of, Interned, Laid, Kept}
use Rattle.assembler.specs.declared.finals.Names.{Names}
use Rattle.assembler.specs.Marked.{row_of, Marked}
pub use Rattle.assembler_names.proofs.NameLaws.{part_of, name-part, part-name, first_low, first_part, first-same, kept_refl, kept_trans}
use Rattle.assembler_names.proofs.NameLaws.{kept-rows}
use Rattle.assembler.proofs.Rows.{length-rows}

-- ---- the list in which a name is looked for
module _ (text : List ℕ) (ts : List Token) where
  listed_same : (x y : ℕ) (l : List ℕ) → part_of text (peek ts x) ≡ part_of text (peek ts y) → listed text ts x l ≡ listed text ts y l
  unfolding listed same_name
  listed_same x y [] e = refl
  listed_same x y (j ∷ l) e =
      ap (λ (p : List ℕ). elim (same (part_of text (peek ts j)) p) [ true ↦ Some j | false ↦ listed text ts x l ]) e
      ∙ ap (λ (o : Option ℕ). elim (same_name text (peek ts j) (peek ts y)) [ true ↦ Some j | false ↦ o ]) (listed_same x y l e)

  listed_yes : (x k : ℕ) (l : List ℕ) → same_name text (peek ts k) (peek ts x) ≡ true → listed text ts x (k ∷ l) ≡ Some k
  unfolding listed
  listed_yes x k l e = ap (λ (b : Bool). elim b [ true ↦ Some k | false ↦ listed text ts x l ]) e

  listed_no : (x k : ℕ) (l : List ℕ) → same_name text (peek ts k) (peek ts x) ≡ false → listed text ts x (k ∷ l) ≡ listed text ts x l
  unfolding listed
  listed_no x k l e = ap (λ (b : Bool). elim b [ true ↦ Some k | false ↦ listed text ts x l ]) e

  -- one name more: nothing changes for what was listed, nor for another name
  listed-before : (x i j : ℕ) (l : List ℕ) → listed text ts x l ≡ Some j → listed text ts x (l ++ i ∷ []) ≡ Some j
  unfolding listed
  listed-before x i j [] e = cc
  listed-before x i j (k ∷ l) e =
      by_test_lem (same_name text (peek ts k) (peek ts x)) (λ y. listed_yes x k (l ++ i ∷ []) y ∙ sym (listed_yes x k l y) ∙ e)
      (λ n. listed_no x k (l ++ i ∷ []) n ∙ listed-before x i j l (sym (listed_no x k l n) ∙ e))

  listed_new : (x i : ℕ) (l : List ℕ) → listed text ts x l ≡ None → same_name text (peek ts i) (peek ts x) ≡ true → listed text ts x (l ++ i ∷ []) ≡ Some i
  listed_new x i [] e s = listed_yes x i [] s
  listed_new x i (k ∷ l) e s =
      by_test_lem (same_name text (peek ts k) (peek ts x)) (λ y. let z : Some k ≡ None = sym (listed_yes x k l y) ∙ e in cc)
      (λ n. listed_no x k (l ++ i ∷ []) n ∙ listed_new x i l (sym (listed_no x k l n) ∙ e) s)

  listed-other : (x i : ℕ) (l : List ℕ) → same_name text (peek ts i) (peek ts x) ≡ false → listed text ts x (l ++ i ∷ []) ≡ listed text ts x l
  unfolding listed
  listed-other x i [] s = listed_no x i [] s
  listed-other x i (k ∷ l) s = ap (λ (o : Option ℕ). elim (same_name text (peek ts k) (peek ts x)) [ true ↦ Some k | false ↦ o ]) (listed-other x i l s)

  -- what a mark says, with one name more
  -- the mark of a name that F lists, where it was not listed before
  mark-listed : (qs before : List ℕ) (x i : ℕ) → listed text ts i before ≡ None → part_of text (peek ts i) ≡ part_of text (peek ts x) → mark_of text ts qs (before ++ i ∷ []) x ≡ i + 2
  unfolding mark_of mark_by
  mark-listed qs before x i e p =
      let n : listed text ts x before ≡ None = listed_same x i before (sym p) ∙ e in
      ap (λ (o : Option ℕ). mark_by o (listed text ts x qs)) (listed_new x i before n (part-name text (peek ts i) (peek ts x) p))

  mark-other : (qs before : List ℕ) (x i : ℕ) → same_name text (peek ts i) (peek ts x) ≡ false → mark_of text ts qs (before ++ i ∷ []) x ≡ mark_of text ts qs before x
  unfolding mark_of
  mark-other qs before x i s = ap (λ (o : Option ℕ). mark_by o (listed text ts x qs)) (listed-other x i before s)

  -- the mark of a name that F lists, where it was listed before
  mark_again : (qs before : List ℕ) (x i j : ℕ) → listed text ts i before ≡ Some j → mark_of text ts qs (before ++ i ∷ []) x ≡ mark_of text ts qs before x
  unfolding mark_of
  mark_again qs before x i j e =
      by_test_lem (same_name text (peek ts i) (peek ts x))
      (λ s.
      let n : listed text ts x before ≡ Some j = listed_same x i before (sym (name-part text (peek ts i) (peek ts x) s)) ∙ e in
      ap (λ (o : Option ℕ). mark_by o (listed text ts x qs)) (listed-before x i j before n ∙ sym n))
      (λ s. mark-other qs before x i s)

  -- the mark of a name that Q has
  mark_state : (qs : List ℕ) (x i : ℕ) → part_of text (peek ts i) ≡ part_of text (peek ts x) → mark_of text ts (qs ++ i ∷ []) [] x ≡ 1
  unfolding mark_of mark_by listed
  mark_state qs x i p = go (listed text ts x qs) refl
    where
      go : (o : Option ℕ) → listed text ts x qs ≡ o → mark_by None (listed text ts x (qs ++ i ∷ [])) ≡ 1
      go (Some j) e = ap (mark_by None) (listed-before x i j qs e)
      go None e = ap (mark_by None) (listed_new x i qs e (part-name text (peek ts i) (peek ts x) p))

  mark_no_state : (qs : List ℕ) (x i : ℕ) → same_name text (peek ts i) (peek ts x) ≡ false → mark_of text ts (qs ++ i ∷ []) [] x ≡ mark_of text ts qs [] x
  unfolding mark_of listed
  mark_no_state qs x i s = ap (mark_by None) (listed-other x i qs s)

-- ---- the words of work
module _ (count a b : ℕ) (w₀ w : List ℕ) (laid : Laid count a b w₀) (kept : Kept b w₀ w) where
  pub kept_laid : Laid count a b w
  kept_laid = record { tokens = laid.tokens; words = laid.words; marks = omega (arith, laid.marks, kept.size); few = laid.few }

  pub kept_row : rows count w ≡ rows count w₀
  kept_row = kept-rows count b w₀ w kept (omega (arith, laid.tokens, laid.words))

  kept_word : (x : ℕ) → x < count → get_or w (a + x) 0 ≡ get_or w₀ (a + x) 0
  kept_word x h =
      let l : a + x < b = omega (arith, laid.words) in
      sym (get_or-take b w (a + x) 0 l) ∙ ap (λ (r : List ℕ). get_or r (a + x) 0) kept.front ∙ get_or-take b w₀ (a + x) 0 l

  pub kept_interned : (text : List ℕ) → Interned text (rows count w₀) a w₀ → Interned text (rows count w) a w
  kept_interned text i = record {
    interned = λ x h e.
        let ts : List Token = rows count w₀ in
        let h' : x < length ts = omega (arith, ap length kept_row) in
        let n : length ts ≡ count = length-rows count w₀ (omega (arith, laid.tokens, laid.words, laid.marks)) in
        let e' : is_word (peek ts x) ≡ true = ap (λ (r : List Token). is_word (peek r x)) (sym kept_row) ∙ e in
        kept_word x (omega arith) ∙ i.interned x h' e' ∙ ap (λ (r : List Token). first_equal text (peek r x) 0 r) (sym kept_row);
  }

-- a mark set
pub kept_set : (b k m : ℕ) (w v : List ℕ) → v ≡ set w (b + k) m → Kept b w v
kept_set b k m w v e = record { front = ap (take b) e ∙ take-set-le b w (b + k) m (omega arith); size = ap length e ∙ length-set w (b + k) m }

module _ (text : List ℕ) (count a b : ℕ) (w : List ℕ) (laid : Laid count a b w) (names : Interned text (rows count w) a w) where
  abbrev row : List Token
  row = rows count w

  row_length : length row ≡ count
  row_length = length-rows count w (omega (arith, laid.tokens, laid.words, laid.marks))

  module _ (i : ℕ) (low : i < count) (word : is_word (peek row i) ≡ true) where
    here : get_or w (a + i) 0 ≡ first_equal text (peek row i) 0 row
    here = names.interned i (omega (arith, row_length)) word

    pub mark-inside : b + get_or w (a + i) 0 < length w
    mark-inside = omega (arith, here, first_low text row i (omega (arith, row_length)) word, row_length, laid.marks)

    -- the marks after the name at i was marked with m
    module _ (m : ℕ) (v : List ℕ) (stored : v ≡ set w (b + get_or w (a + i) 0) m) where
      kept : Kept b w v
      kept = kept_set b (get_or w (a + i) 0) m w v stored

-- ---- marks in a row of their own
module _ (names : Names) where
  abbrev text' : List ℕ
  text' = names.text.now

  abbrev ts' : List Token
  ts' = row_of names

  abbrev firsts' : List ℕ
  firsts' = names.firsts.now

  pub size_of : length (row_of names) ≡ names.tokens.count
  size_of = length-rows names.tokens.count names.tokens.words.now names.tokens.within

  module _ (i : ℕ) (low : i < names.tokens.count) (word : is_word (peek (row_of names) i) ≡ true) where
    first_here : get_or firsts' i 0 ≡ first_equal text' (peek ts' i) 0 ts'
    first_here = names.interned.first i low word

    pub mark_inside : (marks : List ℕ) → names.tokens.count ≤ length marks → get_or names.firsts.now i 0 < length marks
    mark_inside marks room = omega (arith, first_here, first_low text' ts' i (omega (arith, size_of)) word, size_of)

    module _ (marks : List ℕ) (room : names.tokens.count ≤ length marks) where
      -- the marks after the name at i was marked with m
      marks_put : (m : ℕ) (old new : ℕ → ℕ) → ((x : ℕ) → x < length ts' → is_word (peek ts' x) ≡ true → get_or marks (get_or firsts' x 0) 0 ≡ old x)
          → ((x : ℕ) → part_of text' (peek ts' i) ≡ part_of text' (peek ts' x) → new x ≡ m) → ((x : ℕ) → same_name text' (peek ts' i) (peek ts' x) ≡ false → new x ≡ old x)
          → (x : ℕ) → x < length ts' → is_word (peek ts' x) ≡ true → get_or (set marks (get_or firsts' i 0) m) (get_or firsts' x 0) 0 ≡ new x
      marks_put m old new was equal other x h e =
          let at : get_or firsts' x 0 ≡ first_equal text' (peek ts' x) 0 ts' = names.interned.first x (omega (arith, size_of)) e in
          by_test_lem (same_name text' (peek ts' i) (peek ts' x))
          (λ s.
          let p : part_of text' (peek ts' i) ≡ part_of text' (peek ts' x) = name-part text' (peek ts' i) (peek ts' x) s in
          let k : get_or firsts' x 0 ≡ get_or firsts' i 0 = at ∙ sym (first_here ∙ first-same text' (peek ts' i) (peek ts' x) 0 ts' p) in
          ap (λ (k : ℕ). get_or (set marks (get_or firsts' i 0) m) k 0) k ∙ get_or-set_same marks (get_or firsts' i 0) m 0 (mark_inside marks room) ∙ sym (equal x p))
          (λ s.
          let apart : get_or firsts' x 0 ≡ get_or firsts' i 0 → ⊥ = λ z.
          let k : first_equal text' (peek ts' x) 0 ts' ≡ first_equal text' (peek ts' i) 0 ts' = omega (arith, at, first_here) in
          let p : part_of text' (peek ts' i) ≡ part_of text' (peek ts' x) =
          sym (first_part text' ts' i (omega (arith, size_of)) word) ∙ ap (λ (k : ℕ). part_of text' (peek ts' k)) (sym k) ∙ first_part text' ts' x h e in
          let z : ◌≡◌ {A = ℕ} 0 1 = (let t = part-name text' (peek ts' i) (peek ts' x) p in cc) in omega arith in
          get_or-set_other marks (get_or firsts' i 0) (get_or firsts' x 0) m 0 apart ∙ was x h e ∙ sym (other x s))

      -- one of Q's names
      pub state-marked : (qs : List ℕ) → Marked names marks qs [] → Marked names (set marks (get_or names.firsts.now i 0) 1) (qs ++ i ∷ []) []
      state-marked qs p = record {
        marks-at = marks_put 1 (mark_of text' ts' qs []) (mark_of text' ts' (qs ++ i ∷ []) []) (λ x h e. p.marks-at x h e) (λ x q. mark_state text' ts' qs x i q) (λ x s. mark_no_state text' ts' qs x i s);
      }

      -- what the mark of the name at i says
      module _ (m : ℕ) (mark : m ≡ get_or marks (get_or names.firsts.now i 0) 0) (qs before : List ℕ) (p : Marked names marks qs before) where
        mark_is : m ≡ mark_of text' ts' qs before i
        mark_is = mark ∙ p.marks-at i (omega (arith, size_of)) word

        -- a high mark says where the name was listed before
        mark_high : 2 ≤ m → listed text' ts' i before ≡ Some (m - 2)
        unfolding mark_of mark_by
        mark_high h = go (listed text' ts' i before) (listed text' ts' i qs) mark_is
          where
            go : (o q : Option ℕ) → m ≡ mark_by o q → o ≡ Some (m - 2)
            go (Some j) q e = ap Some (omega arith)
            go None (Some k) e = absurd (omega arith)
            go None None e = absurd (omega arith)

        mark_low : m < 2 → listed text' ts' i before ≡ None
        unfolding mark_of mark_by
        mark_low h = go (listed text' ts' i before) (listed text' ts' i qs) mark_is
          where
            go : (o q : Option ℕ) → m ≡ mark_by o q → o ≡ None
            go (Some j) q e = absurd (omega arith)
            go None q e = refl

        pub again_marks : 2 ≤ m → Marked names marks qs (before ++ i ∷ [])
        again_marks h = record { marks-at = λ x g e. p.marks-at x g e ∙ sym (mark_again text' ts' qs before x i (m - 2) (mark_high h)) }

        -- a name that F lists for the first time
        pub first_marks : m < 2 → Marked names (set marks (get_or names.firsts.now i 0) (i + 2)) qs (before ++ i ∷ [])
        first_marks h = record {
          marks-at = marks_put (i + 2) (mark_of text' ts' qs before) (mark_of text' ts' qs (before ++ i ∷ [])) (λ x h e. p.marks-at x h e)
              (λ x q. mark-listed text' ts' qs before x i (mark_low h) q) (λ x s. mark-other text' ts' qs before x i s);
        }

        -- the diagnostic of a name that F lists
        module _ (d : Bool) where
          pub final_again : 2 ≤ m → with_related (error 11 (place_of (peek (row_of names) i))) (place_of (peek (row_of names) (m - 2))) ∷ [] ≡ final_error names.text.now (row_of names) d qs before i
          unfolding final_error
          final_again h = sym (ap (λ (o : Option ℕ). elim o [ Some j ↦ with_related (error 11 (place_of (peek ts' i))) (place_of (peek ts' j)) ∷ [] | None ↦ unknown_error text' ts' d qs i ]) (mark_high h))

          unknown_is : m < 2 → unknown_error text' ts' d qs i ≡ cond (cond d (eqb m 0) false) (error 3 (place_of (peek ts' i)) ∷ []) []
          unfolding unknown_error mark_of mark_by
          unknown_is h = go d (listed text' ts' i qs) (mark_is ∙ ap (λ (o : Option ℕ). mark_by o (listed text' ts' i qs)) (mark_low h))
            where
              go : (d : Bool) (q : Option ℕ) → m ≡ mark_by None q
                  → cond d (elim q [ Some j ↦ [] | None ↦ error 3 (place_of (peek ts' i)) ∷ [] ]) [] ≡ cond (cond d (eqb m 0) false) (error 3 (place_of (peek ts' i)) ∷ []) []
              go true (Some j) e = rw (ne_eqb m 0 (omega arith))
              go true None e = rw (eq-eqb m 0 e)
              go false q e = refl

          pub final-first : m < 2 → cond (cond d (eqb m 0) false) (error 3 (place_of (peek (row_of names) i)) ∷ []) [] ≡ final_error names.text.now (row_of names) d qs before i
          unfolding final_error
          final-first h =
              sym (unknown_is h)
              ∙ sym (ap (λ (o : Option ℕ). elim o [ Some j ↦ with_related (error 11 (place_of (peek ts' i))) (place_of (peek ts' j)) ∷ [] | None ↦ unknown_error text' ts' d qs i ]) (mark_low h))

  -- ---- no marks
  no_marks : (rest : List ℕ) → Marked names (replicate names.tokens.count 0 ++ rest) [] []
  unfolding mark_of mark_by listed
  no_marks rest = record {
    marks-at = λ x h e.
        let k : get_or firsts' x 0 < names.tokens.count = omega (arith, names.interned.first x (omega (arith, size_of)) e, first_low text' ts' x h e, size_of) in
        get_or-append (replicate names.tokens.count 0) rest 0 (get_or firsts' x 0) (omega (arith, length-replicate {A = ℕ} names.tokens.count 0)) ∙ get_or-replicate names.tokens.count (get_or firsts' x 0) 0 0 k;
  }

  pub marks-cleared : (marks v rest : List ℕ) → names.tokens.count ≤ length marks → v ≡ replicate (length (take names.tokens.count marks)) 0 → Marked names (v ++ rest) [] []
  marks-cleared marks v rest h e =
      let n : length (take names.tokens.count marks) ≡ names.tokens.count = length-take-le names.tokens.count marks h in
      rw (e, n) (no_marks rest)
