-- How many words the sections of states and finals may have, from the number of tokens: what a caller
-- needs to know that its index stays small.
use mathlib.Core.Bool.{Bool, true, false, cond}
use mathlib.Core.List.{List, [], ◌∷◌, ◌++◌}
use Prim.Native.Nat.{ℕ, suc, ◌+◌, ◌*◌, ◌≤◌}
use native.Mathlib.Omega.{arith}
use lib.Dec.{eqb, ltb}
use lib.ListN.{length, get_or, drop, length-append, length-drop}
use Rattle.tokens.specs.declared.Token.{Token}
use Rattle.parser.specs.Row.{peek}
use Rattle.parser.specs.Views.{is_state}
use Rattle.language.specs.Layout.{flat, place_words}
use Rattle.assembler.specs.Rows.{place_of}
use Rattle.assembler.specs.Entries.{entries}
use Rattle.infer.specs.Page.{indices_from, indices_in}
use Rattle.infer.specs.States.{mark_of, name_words, mentions, start_name, name_adds, name_marks, names_add, finals, inferred, states_add, section, firsts_in, marks_in, state_section, place_at, final_section}
use Rattle.infer.proofs.WalkLaws.{mentions-all}

-- ---- states and finals
indices_few : (i : ℕ) (ts : List Token) → length (indices_from i ts) ≤ length ts
unfolding indices_from
indices_few i [] = omega arith
indices_few i (t ∷ ts) = go (eqb t.kind 13) (indices_few (suc i) ts)
  where
    go : (b : Bool) → length (indices_from (suc i) ts) ≤ length ts → length {A = ℕ} (elim b [ true ↦ [] | false ↦ i ∷ indices_from (suc i) ts ]) ≤ suc (length ts)
    go true h = omega arith
    go false h = omega arith

line_few : (ts : List Token) (f : ℕ) → length (indices_in ts f) ≤ length ts
unfolding indices_in
line_few ts f = omega (arith, indices_few (suc f) (drop (suc f) ts), length-drop (suc f) ts)

names_width : (firsts : List ℕ) (ts : List Token) (repeats : Bool) (marks xs : List ℕ) → length (names_add firsts ts repeats marks xs) ≤ 3 * length xs
unfolding names_add name_adds
names_width firsts ts repeats marks [] = omega arith
names_width firsts ts repeats marks (x ∷ xs) =
    let m : ℕ = mark_of firsts marks x in
    omega (arith, length-append (name_adds firsts ts repeats marks x) (names_add firsts ts repeats (name_marks firsts ts marks x) xs), go m (is_state (peek ts x)) (ltb m 2) repeats, names_width firsts ts repeats (name_marks firsts ts marks x) xs)
  where
    go : (m : ℕ) (a b c : Bool) → length (cond a (cond b (name_words (peek ts x) m) (cond c (name_words (peek ts x) 0) [])) []) ≤ 3
    go m true true c = omega arith
    go m true false true = omega arith
    go m true false false = omega arith
    go m false b c = omega arith

start_few : (ts : List Token) (s : ℕ) → length (start_name ts s) ≤ 1
unfolding start_name
start_few ts s = go (ltb s (length ts))
  where
    go : (b : Bool) → length (cond b ((s + 2) ∷ []) []) ≤ 1
    go true = omega arith
    go false = omega arith

inferred_few : (ts : List Token) (s f : ℕ) → length (inferred ts s f) ≤ 3 * length ts + 1
unfolding inferred
inferred_few ts s f =
    let a : List ℕ = start_name ts s in
    let b : List ℕ = mentions ts (entries ts) in
    let c : List ℕ = indices_in ts f in
    omega (arith, length-append a (b ++ c), length-append b c, start_few ts s, mentions-all ts, line_few ts f)

pub section_width : (firsts : List ℕ) (ts : List Token) (first marks : List ℕ) → length (section firsts ts first marks) ≤ 9 * length ts + 3
unfolding section states_add
section_width firsts ts first marks = go (ltb (get_or first 5 0) (length ts))
  where
    m : List ℕ
    m = finals firsts ts first marks

    q : List ℕ
    q = indices_in ts (get_or first 5 0)

    i : List ℕ
    i = inferred ts (get_or first 9 0) (get_or first 10 0)

    go : (x : Bool) → length (cond x (names_add firsts ts true m q) (names_add firsts ts false m i)) ≤ 9 * length ts + 3
    go true = omega (arith, names_width firsts ts true m q, line_few ts (get_or first 5 0))
    go false = omega (arith, names_width firsts ts false m i, inferred_few ts (get_or first 9 0) (get_or first 10 0))

pub states_width : (size : ℕ) (ts : List Token) (first w : List ℕ) → length (state_section size ts first w) ≤ 9 * length ts + 3
unfolding state_section
states_width size ts first w = section_width (firsts_in size w) ts first (marks_in size w)

places_width : (ts : List Token) (xs : List ℕ) → length (flat (place_at ts) xs) ≤ 2 * length xs
unfolding flat place_at
places_width ts [] = omega arith
places_width ts (x ∷ xs) = omega (arith, length-append (place_at ts x) (flat (place_at ts) xs), go (is_state (peek ts x)), places_width ts xs)
  where
    go : (b : Bool) → length (cond b (place_words (place_of (peek ts x))) []) ≤ 2
    go true = omega arith
    go false = omega arith

pub finals_width : (ts : List Token) (f : ℕ) → length (final_section ts f) ≤ 2 * length ts
unfolding final_section
finals_width ts f = omega (arith, places_width ts (indices_in ts f), line_few ts f)
