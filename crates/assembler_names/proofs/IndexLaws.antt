-- Laws of the index: a word entered in its table.
use mathlib.Core.Path.{◌≡◌, sym, ap, subst, ◌∙◌}
use mathlib.Core.Bool.{true, false}
use mathlib.Core.List.{List, [], ◌∷◌}
use Prim.Native.Nat.{ℕ, ◌+◌, ◌-◌, ◌≤◌, ◌<◌}
use native.Mathlib.Omega.{arith}
use borrow.Author.Tests.{eq-eqb, ne_eqb, eqb-true, ltb-true, ltb-false}
use lib.Dec.{eqb, ltb}
use lib.ListN.{length, get_or, take, drop, set, length-take, length-drop}
use lib.Seq.{get_or-set_same, get_or-set_other, get_or-take, get_or-drop}
use Rattle.std.specs.Prelude.{Option, None, Some}
use Rattle.std.specs.Option.{unwrap_or}
use Rattle.std.specs.List.{position}
use Rattle.std.proofs.lemmas.Option.{none-some}
use Rattle.std.proofs.lemmas.List.Quantifiers.{position-Some}
use Rattle.diag.proofs.Cases.{by_test_lem}
use Rattle.lexer.specs.Places.{part}
use Rattle.tokens.specs.declared.Token.{Token}
use Rattle.parser.specs.Row.{peek}
use Rattle.assembler_names.specs.Names.{is_word, same_word, first_equal}
use Rattle.assembler_names.specs.Index.{own_slot, hashed_slot, slot_in, slot_of, stops, filled, Reached, IndexOf}
use Rattle.assembler_names.proofs.NameLaws.{part_of, named_same, word-part, first-before, first_equal_lem, first_word, first_part, word_yes, first-same, first_again}
use Rattle.assembler_names.proofs.TableLaws.{filled_empty, filled-held}

by_equal : {X : Type 0} (a b : ℕ) → (a ≡ b → X) → ((a ≡ b → ⊥) → X) → X
by_equal a b f g = by_test_lem (eqb a b) (λ e. f (eqb-true a b e)) (λ n. g (λ q. let z : true ≡ false = sym (eq-eqb a b q) ∙ n in let o : ◌≡◌ {A = ℕ} 0 1 = cc in omega arith))

-- ---- a slot
module _ (text : List ℕ) (ts : List Token) (u : Token) (v : ℕ) where
  stops_no : stops text ts (part_of text u) v ≡ false → (v ≡ 0 → ⊥) × (same_word text u (peek ts (v - 1)) ≡ false)
  unfolding stops
  stops_no e = by_test_lem (eqb v 0) (λ y. let z : true ≡ false = rw y at e in absurd (let o : ◌≡◌ {A = ℕ} 0 1 = cc in omega arith))
      (λ n.
      ((λ q. let z : true ≡ false = sym (eq-eqb v 0 q) ∙ n in let o : ◌≡◌ {A = ℕ} 0 1 = cc in omega arith), sym (named_same text u (peek ts (v - 1))) ∙ rw n at e))

  stops_yes : stops text ts (part_of text u) v ≡ true → (v ≡ 0 → ⊥) → same_word text u (peek ts (v - 1)) ≡ true
  unfolding stops
  stops_yes e n = sym (named_same text u (peek ts (v - 1))) ∙ rw (ne_eqb v 0 n) at e

  stops_at : (v ≡ 0 → ⊥) → same_word text u (peek ts (v - 1)) ≡ true → stops text ts (part_of text u) v ≡ true
  unfolding stops
  stops_at n e = rw (ne_eqb v 0 n) (named_same text u (peek ts (v - 1)) ∙ e)

  stops_empty : v ≡ 0 → stops text ts (part_of text u) v ≡ true
  unfolding stops
  stops_empty e = rw (eq-eqb v 0 e)

-- ---- a token entered
module _ (text : List ℕ) (ts : List Token) (letters span : ℕ) (row slots : List ℕ) (x : ℕ) (ix : IndexOf text ts letters span x row slots) where
  abbrev u : Token
  u = peek ts x

  pub enter-other : (t : Token) → t ≡ peek ts x → (t.kind ≡ 0 → ⊥) → IndexOf text ts letters span (x + 1) row slots
  enter-other t at_x n =
      let no : is_word u ≡ false = ap is_word (sym at_x) ∙ ne_eqb t.kind 0 n in
      let before : (y : ℕ) → y < x + 1 → is_word (peek ts y) ≡ true → y < x =
      λ y h e. by_equal y x (λ q. absurd (let z : true ≡ false = sym e ∙ ap (λ (y : ℕ). is_word (peek ts y)) q ∙ no in let o : ◌≡◌ {A = ℕ} 0 1 = cc in omega arith)) (λ q. omega arith) in
      record { names = λ y h e. ix.names y (before y h e) e; held = ix.held; reached = λ y h e. ix.reached y (before y h e) e; letter-word = ix.letter-word; letter-part = ix.letter-part }

  module _ (inside : x < length ts) (word : is_word (peek ts x) ≡ true) (long : length ts ≤ length row) (s d : ℕ) (own : slot_of text letters span (peek ts x) ≡ s)
      (stop : stops text ts (part_of text (peek ts x)) (get_or slots (s + d) 0) ≡ true)
      (passed : (i : ℕ) → i < d → stops text ts (part_of text (peek ts x)) (get_or slots (s + i) 0) ≡ false) (room : s + d < length slots)
      (one : (c : ℕ) → c < letters → c ≡ s + d → part_of text (peek ts x) ≡ c ∷ []) where
    abbrev f : ℕ
    f = first_equal text u 0 ts

    abbrev j : ℕ
    j = s + d

    abbrev v : ℕ
    v = get_or slots (s + d) 0

    same-slot : (y : ℕ) → same_word text u (peek ts y) ≡ true → slot_of text letters span (peek ts y) ≡ s
    unfolding slot_of
    same-slot y e = ap (slot_in letters span) (word-part text u (peek ts y) e) ∙ own

    -- an empty slot ends the search of a word that is the first of its name
    empty_first : v ≡ 0 → f ≡ x
    empty_first z = by_equal f x (λ e. e) (λ n. absurd (never n))
      where
        never : (f ≡ x → ⊥) → ⊥
        never n =
            let fl : f < x = omega (arith, first-before text ts x inside word) in
            let r : Reached text ts letters span slots (peek ts f) = ix.reached f fl (first_word text ts x inside word) in
            let sl : slot_of text letters span (peek ts f) ≡ s = same-slot f (first_equal_lem text ts x inside word) in
            let h : get_or slots (s + r.steps) 0 ≡ f + 1 = ap (λ (s : ℕ). get_or slots (s + r.steps) 0) (sym sl) ∙ r.here ∙ ap (λ (n : ℕ). n + 1) (first_again text ts x inside word) in
            let less : r.steps < d → ⊥ = λ l.
            let g : get_or slots (s + r.steps) 0 - 1 ≡ f = omega arith in
            let q : false ≡ true = sym (stops_no text ts u (get_or slots (s + r.steps) 0) (passed r.steps l)).1 ∙ ap (λ (i : ℕ). same_word text u (peek ts i)) g ∙ first_equal_lem text ts x inside word in
            (let o : ◌≡◌ {A = ℕ} 0 1 = cc in omega arith) in
            let equal : r.steps ≡ d → ⊥ = λ e. let q : get_or slots (s + r.steps) 0 ≡ 0 = ap (λ (i : ℕ). get_or slots (s + i) 0) e ∙ z in omega arith in
            let more : d < r.steps → ⊥ = λ l. r.passed d l (ap (λ (s : ℕ). get_or slots (s + d) 0) sl ∙ z) in
            by_equal r.steps d equal (λ n. by_test_lem (ltb r.steps d) (λ y. less (ltb-true r.steps d y)) (λ y. more (omega (arith, ltb-false r.steps d y))))

    -- a filled slot that ends it holds the first
    held_first : (v ≡ 0 → ⊥) → v ≡ f + 1
    held_first n =
        let e : same_word text u (peek ts (v - 1)) ≡ true = stops_yes text ts u v stop n in
        let g : f ≡ v - 1 = first-same text u (peek ts (v - 1)) 0 ts (sym (word-part text u (peek ts (v - 1)) e)) ∙ ix.held j n in
        omega arith

    new : filled v x ≡ f + 1
    new = by_equal v 0 (λ z. filled_empty v x z ∙ ap (λ (n : ℕ). n + 1) (sym (empty_first z))) (λ n. filled-held v x n ∙ held_first n)

    module _ (row' slots' : List ℕ) (er : row' ≡ set row x (filled (get_or slots (s + d) 0) x - 1)) (es : slots' ≡ set slots (s + d) (filled (get_or slots (s + d) 0) x)) where
      at_slot : get_or slots' j 0 ≡ f + 1
      at_slot = ap (λ (l : List ℕ). get_or l j 0) es ∙ get_or-set_same slots j (filled v x) 0 room ∙ new

      elsewhere : (i : ℕ) → (i ≡ j → ⊥) → get_or slots' i 0 ≡ get_or slots i 0
      elsewhere i n = ap (λ (l : List ℕ). get_or l i 0) es ∙ get_or-set_other slots j i (filled v x) 0 n

      keeps : (i : ℕ) → (get_or slots i 0 ≡ 0 → ⊥) → get_or slots' i 0 ≡ get_or slots i 0
      keeps i n =
          by_equal i j (λ q. ap (λ (i : ℕ). get_or slots' i 0) q ∙ at_slot ∙ sym (held_first (λ z. n (ap (λ (i : ℕ). get_or slots i 0) q ∙ z))) ∙ ap (λ (i : ℕ). get_or slots i 0) (sym q)) (λ q. elsewhere i q)

      name_at_lem : get_or row' x 0 ≡ f
      name_at_lem = ap (λ (l : List ℕ). get_or l x 0) er ∙ get_or-set_same row x (filled v x - 1) 0 (omega arith) ∙ omega (arith, new)

      itself : Reached text ts letters span slots' u
      itself = record {
        steps = d;
        passed = λ i l z.
            let n : get_or slots (s + i) 0 ≡ 0 → ⊥ = (stops_no text ts u (get_or slots (s + i) 0) (passed i l)).0 in
            n (sym (keeps (s + i) n) ∙ ap (λ (s : ℕ). get_or slots' (s + i) 0) (sym own) ∙ z);
        here = ap (λ (s : ℕ). get_or slots' (s + d) 0) own ∙ at_slot;
      }

      still : (y : ℕ) → Reached text ts letters span slots (peek ts y) → Reached text ts letters span slots' (peek ts y)
      still y r =
          let o : ℕ = slot_of text letters span (peek ts y) in
          record {
            steps = r.steps;
            passed = λ i l z. r.passed i l (sym (keeps (o + i) (r.passed i l)) ∙ z);
            here = keeps (o + r.steps) (λ z. omega (arith, r.here)) ∙ r.here;
          }

      letter_here : (c : ℕ) → c ≡ j → get_or slots' c 0 - 1 ≡ f
      letter_here c q = omega (arith, ap (λ (i : ℕ). get_or slots' i 0) q, at_slot)

      pub entered : IndexOf text ts letters span (x + 1) row' slots'
      entered = record {
        names = λ y h e.
            by_equal y x (λ q. ap (λ (y : ℕ). get_or row' y 0) q ∙ name_at_lem ∙ ap (λ (y : ℕ). first_equal text (peek ts y) 0 ts) (sym q))
            (λ q. ap (λ (l : List ℕ). get_or l y 0) er ∙ get_or-set_other row x y (filled v x - 1) 0 q ∙ ix.names y (omega arith) e);
        held = λ i n.
            by_equal i j
            (λ q.
            let g : get_or slots' i 0 - 1 ≡ f = letter_here i q in
            ap (λ (m : ℕ). first_equal text (peek ts m) 0 ts) g ∙ first_again text ts x inside word ∙ sym g)
            (λ q.
            let g : get_or slots' i 0 ≡ get_or slots i 0 = elsewhere i q in
            ap (λ (m : ℕ). first_equal text (peek ts (m - 1)) 0 ts) g ∙ ix.held i (λ z. n (g ∙ z)) ∙ ap (λ (m : ℕ). m - 1) (sym g));
        reached = λ y h e.
            by_equal y x (λ q. subst (λ (y : ℕ). Reached text ts letters span slots' (peek ts y)) (sym q) itself) (λ q. still y (ix.reached y (omega arith) e));
        letter-word = λ c l n.
            by_equal c j (λ q. ap (λ (i : ℕ). is_word (peek ts i)) (letter_here c q) ∙ first_word text ts x inside word)
            (λ q.
            let g : get_or slots' c 0 ≡ get_or slots c 0 = elsewhere c q in
            ap (λ (m : ℕ). is_word (peek ts (m - 1))) g ∙ ix.letter-word c l (λ z. n (g ∙ z)));
        letter-part = λ c l n.
            by_equal c j (λ q. ap (λ (i : ℕ). part_of text (peek ts i)) (letter_here c q) ∙ first_part text ts x inside word ∙ one c l q)
            (λ q.
            let g : get_or slots' c 0 ≡ get_or slots c 0 = elsewhere c q in
            ap (λ (m : ℕ). part_of text (peek ts (m - 1))) g ∙ ix.letter-part c l (λ z. n (g ∙ z)));
      }

-- ---- the slot of its own that a name of one byte has
own_name : (letters : ℕ) (l : List ℕ) (c : ℕ) → own_slot letters l ≡ Some c → (l ≡ c ∷ []) × (c < letters)
unfolding own_slot
own_name letters [] c e = absurd (none-some c e)
own_name letters (a ∷ b ∷ r) c e = absurd (none-some c e)
own_name letters (a ∷ []) c e =
    by_test_lem (ltb a letters)
    (λ t.
    let z : ◌≡◌ {A = Option ℕ} (Some a) (Some c) = rw t at e in
    let y : a ≡ c = ap (λ (o : Option ℕ). unwrap_or o 0) z in
    (ap (λ (c : ℕ). c ∷ []) y, omega (arith, y, ltb-true a letters t)))
    (λ t. absurd (none-some c (rw t at e)))

pub own_low : (letters : ℕ) (l : List ℕ) (c : ℕ) → Some c ≡ own_slot letters l → c < letters
own_low letters l c e = (own_name letters l c (sym e)).1

own_in : (letters span : ℕ) (l : List ℕ) (c : ℕ) → own_slot letters l ≡ Some c → slot_in letters span l ≡ c
unfolding slot_in
own_in letters span l c e = ap (λ (o : Option ℕ). unwrap_or o (hashed_slot letters span l)) e

hashed_in : (letters span : ℕ) (l : List ℕ) → own_slot letters l ≡ None → slot_in letters span l ≡ hashed_slot letters span l
unfolding slot_in
hashed_in letters span l e = ap (λ (o : Option ℕ). unwrap_or o (hashed_slot letters span l)) e

hashed_high : (letters span : ℕ) (l : List ℕ) → letters ≤ hashed_slot letters span l
unfolding hashed_slot
hashed_high letters span l = omega arith

-- ---- what `enter` does
module _ (text : List ℕ) (ts : List Token) (letters span window : ℕ) (row slots : List ℕ) (x : ℕ) (ix : IndexOf text ts letters span x row slots) (inside : x < length ts) (long : length ts ≤ length row)
    (table : span + window ≤ length slots) (begins : letters + 32 ≤ span) (t : Token) (at_x : t ≡ peek ts x) (kind : t.kind ≡ 0) (name : List ℕ) (is : name ≡ part text t.start t.end) where
  word : is_word (peek ts x) ≡ true
  word = ap is_word (sym at_x) ∙ eq-eqb t.kind 0 kind

  name_is : name ≡ part_of text (peek ts x)
  name_is = is ∙ ap (part_of text) at_x

  pub enter-letter : (c : ℕ) → Some c ≡ own_slot letters name → (row' slots' : List ℕ) → row' ≡ set row x (filled (get_or slots c 0) x - 1) → slots' ≡ set slots c (filled (get_or slots c 0) x)
      → IndexOf text ts letters span (x + 1) row' slots'
  unfolding slot_of
  enter-letter c e row' slots' er es =
      let own : own_slot letters (part_of text (peek ts x)) ≡ Some c = ap (own_slot letters) (sym name_is) ∙ sym e in
      let o = own_name letters (part_of text (peek ts x)) c own in
      let z : c + 0 ≡ c = omega arith in
      let stop : stops text ts (part_of text (peek ts x)) (get_or slots (c + 0) 0) ≡ true =
      ap (λ (i : ℕ). stops text ts (part_of text (peek ts x)) (get_or slots i 0)) z
      ∙ by_equal (get_or slots c 0) 0 (stops_empty text ts (peek ts x) (get_or slots c 0))
      (λ n. stops_at text ts (peek ts x) (get_or slots c 0) n (word_yes text (peek ts x) (peek ts (get_or slots c 0 - 1)) (ix.letter-word c o.1 n) (ix.letter-part c o.1 n ∙ sym o.0))) in
      entered text ts letters span row slots x ix inside word long c 0 (own_in letters span (part_of text (peek ts x)) c own) stop (λ i h. absurd (omega arith)) (omega (arith, o.1))
      (λ i l q. let k : i ≡ c = omega arith in o.0 ∙ ap (λ (c : ℕ). c ∷ []) (sym k)) row' slots'
      (er ∙ ap (λ (i : ℕ). set row x (filled (get_or slots i 0) x - 1)) (sym z)) (es ∙ ap (λ (i : ℕ). set slots i (filled (get_or slots i 0) x)) (sym z))

  pub enter-word : (s d : ℕ) → None ≡ own_slot letters name → s ≡ hashed_slot letters span name → s < span
      → Some d ≡ position (stops text ts name) (take (s + window - s) (drop s slots))
      → (row' slots' : List ℕ) → row' ≡ set row x (filled (get_or slots (s + d) 0) x - 1) → slots' ≡ set slots (s + d) (filled (get_or slots (s + d) 0) x)
      → IndexOf text ts letters span (x + 1) row' slots'
  unfolding slot_of
  enter-word s d none e low found row' slots' er es =
      let near : List ℕ = take (s + window - s) (drop s slots) in
      let p = position-Some (stops text ts name) near d 0 (sym found) in
      let size : length near ≡ window = omega (arith, length-take (s + window - s) (drop s slots), length-drop s slots) in
      let at : (i : ℕ) → i < window → get_or near i 0 ≡ get_or slots (s + i) 0 = λ i h. get_or-take (s + window - s) (drop s slots) i 0 (omega arith) ∙ get_or-drop s slots i 0 in
      let short : d < window = omega (arith, p.0, size) in
      let ends : stops text ts name (get_or near d 0) ≡ true = p.1 in
      let own : slot_of text letters span (peek ts x) ≡ s = ap (slot_in letters span) (sym name_is) ∙ hashed_in letters span name (sym none) ∙ sym e in
      let high : letters ≤ s = omega (arith, e, hashed_high letters span name) in
      let by_name : (v : ℕ) → stops text ts (part_of text (peek ts x)) v ≡ stops text ts name v = λ v. ap (λ (n : List ℕ). stops text ts n v) (sym name_is) in
      entered text ts letters span row slots x ix inside word long s d own (by_name (get_or slots (s + d) 0) ∙ ap (stops text ts name) (sym (at d short)) ∙ ends)
      (λ i h. by_name (get_or slots (s + i) 0) ∙ ap (stops text ts name) (sym (at i (omega arith))) ∙ p.2 i h)
      (omega arith) (λ c l q. absurd (omega arith)) row' slots' er es
