-- Laws of the names that become states: what storing one does, and several one after the other.
use mathlib.Core.Path.{◌≡◌, refl, sym, ap, subst, ◌∙◌}
use mathlib.Core.Bool.{Bool, true, false}
use mathlib.Core.List.{List, [], ◌∷◌, ◌++◌, append-nil, append_assoc}
use Prim.Native.Nat.{ℕ, ◌+◌, ◌≤◌, ◌<◌}
use native.Mathlib.Omega.{arith}
use borrow.Author.Tests.{lt-ltb, le-ltb}
use lib.ListN.{length, get_or, set}
use Rattle.tokens.specs.declared.Token.{Token}
use Rattle.parser.specs.Row.{peek}
use Rattle.parser.specs.Views.{is_state}
use Rattle.sheet.specs.declared.put.Sheet.{Sheet}
use Rattle.sheet.specs.Puts.{Puts}
use Rattle.sheet.proofs.Puts.{puts_none, puts_as, ◌▹◌}
use Rattle.infer.specs.declared.names.Names.{Names}
use Rattle.infer.specs.Names.{row_of, Named}
use Rattle.infer.proofs.Pages.{state-inside}
use Rattle.infer.specs.States.{mark_of, list_final, name_words, name_adds, name_marks, names_add, names_mark}

-- ---- F
module _ (firsts : List ℕ) (ts : List Token) (marks : List ℕ) (x : ℕ) (t : Token) (at : t ≡ peek ts x) where
  there : (b : Bool) → b ≡ is_state t → is_state (peek ts x) ≡ b
  there b test = ap is_state (sym at) ∙ sym test

  pub final_set : (b : Bool) → b ≡ is_state t → b ≡ true → (k : ℕ) → k ≡ get_or firsts x 0 → set marks k 1 ≡ list_final firsts ts marks x
  unfolding list_final
  final_set b test e k f = rw (there b test, e, f)

  pub final_none : (b : Bool) → b ≡ is_state t → b ≡ false → marks ≡ list_final firsts ts marks x
  unfolding list_final
  final_none b test e = rw (there b test, e)

-- ---- names
module _ (firsts : List ℕ) (ts : List Token) (repeats : Bool) where
  adds_append : (marks xs ys : List ℕ) → names_add firsts ts repeats marks (xs ++ ys) ≡ names_add firsts ts repeats marks xs ++ names_add firsts ts repeats (names_mark firsts ts marks xs) ys
  unfolding names_add names_mark
  adds_append marks [] ys = refl
  adds_append marks (x ∷ xs) ys =
      ap (λ (l : List ℕ). name_adds firsts ts repeats marks x ++ l) (adds_append (name_marks firsts ts marks x) xs ys)
      ∙ sym (append_assoc (name_adds firsts ts repeats marks x) (names_add firsts ts repeats (name_marks firsts ts marks x) xs)
      (names_add firsts ts repeats (names_mark firsts ts (name_marks firsts ts marks x) xs) ys))

  marks_append : (marks xs ys : List ℕ) → names_mark firsts ts marks (xs ++ ys) ≡ names_mark firsts ts (names_mark firsts ts marks xs) ys
  unfolding names_mark
  marks_append marks [] ys = refl
  marks_append marks (x ∷ xs) ys = marks_append (name_marks firsts ts marks x) xs ys

module _ {n : Names} {repeats : Bool} where
  pub named_none : {marks : List ℕ} {out : Sheet} → Named n repeats [] marks marks out out
  unfolding names_add names_mark
  named_none {marks} {out} = record { puts = puts_none out; marked = refl }

  infixr 20 ◌▸◌
  pub ◌▸◌ : {xs ys m p q : List ℕ} {s t u : Sheet} → Named n repeats xs m p s t → Named n repeats ys p q t u → Named n repeats (xs ++ ys) m q s u
  ◌▸◌ {xs} {ys} {m} {p} {q} {s} {t} {u} a b =
      let firsts : List ℕ = n.firsts.now in
      let ts : List Token = row_of n in
      record {
        puts = puts_as (adds_append firsts ts repeats m xs ys ∙ ap (λ (l : List ℕ). names_add firsts ts repeats m xs ++ names_add firsts ts repeats l ys) (sym a.marked)) (a.puts ▹ b.puts);
        marked = b.marked ∙ ap (λ (l : List ℕ). names_mark firsts ts l ys) a.marked ∙ sym (marks_append firsts ts repeats m xs ys);
      }

  -- names that equal those that were stored were stored
  pub named_as : {xs ys m p : List ℕ} {s t : Sheet} → xs ≡ ys → Named n repeats ys m p s t → Named n repeats xs m p s t
  named_as {xs} {ys} {m} {p} {s} {t} e u = subst (λ (l : List ℕ). Named n repeats l m p s t) (sym e) u

-- ---- one name
-- the index of a state, and of its mark, lie in their rows
pub name_inside : (n : Names) (x : ℕ) (t : Token) (b : Bool) → t ≡ peek (row_of n) x → b ≡ is_state t → b ≡ true → x < length n.firsts.now
name_inside n x t b at test e = omega (arith, n.few, state-inside n.tokens.count n.tokens.words.now x t b at test e)

pub mark_inside : (n : Names) (x : ℕ) (t : Token) (b : Bool) → t ≡ peek (row_of n) x → b ≡ is_state t → b ≡ true → get_or n.firsts.now x 0 < length n.firsts.now
mark_inside n x t b at test e = n.low x (state-inside n.tokens.count n.tokens.words.now x t b at test e) (there n.firsts.now (row_of n) [] x t at b test ∙ e)

module _ (n : Names) (repeats : Bool) (x : ℕ) (marks : List ℕ) (out : Sheet) (t : Token) (at : t ≡ peek (row_of n) x) (b : Bool) (test : b ≡ is_state t) where
  one : (p : List ℕ) (s : Sheet) → Puts (name_adds n.firsts.now (row_of n) repeats marks x) out s → p ≡ name_marks n.firsts.now (row_of n) marks x → Named n repeats (x ∷ []) marks p out s
  unfolding names_add names_mark
  one p s u e = record { puts = puts_as (append-nil (name_adds n.firsts.now (row_of n) repeats marks x)) u; marked = e }

  state_is : is_state (peek (row_of n) x) ≡ b
  state_is = there n.firsts.now (row_of n) marks x t at b test

  pub name_other : b ≡ false → Named n repeats (x ∷ []) marks marks out out
  unfolding name_adds name_marks
  name_other e = one marks out (puts_as (rw (state_is, e)) (puts_none out)) (rw (state_is, e))

  module _ (state : b ≡ true) (k m : ℕ) (mark : k ≡ get_or n.firsts.now x 0) (held : m ≡ get_or marks k 0) where
    mark_is : mark_of n.firsts.now marks x ≡ m
    mark_is = ap (λ (k : ℕ). get_or marks k 0) (sym mark) ∙ sym held

    pub name_new : (marks' : List ℕ) (out' : Sheet) → m < 2 → Puts (name_words t m) out out' → marks' ≡ set marks k (m + 2) → Named n repeats (x ∷ []) marks marks' out out'
    unfolding name_adds name_marks
    name_new marks' out' h u e = one marks' out' (puts_as (rw (state_is, state, mark_is, lt-ltb m 2 h, at)) u) (rw (state_is, state, mark_is, lt-ltb m 2 h, e, mark))

    pub name_again : (out' : Sheet) → 2 ≤ m → repeats ≡ true → Puts (name_words t 0) out out' → Named n repeats (x ∷ []) marks marks out out'
    unfolding name_adds name_marks
    name_again out' h r u = one marks out' (puts_as (rw (state_is, state, mark_is, le-ltb m 2 h, r, at)) u) (rw (state_is, state, mark_is, le-ltb m 2 h))

    pub name_passed : 2 ≤ m → repeats ≡ false → Named n repeats (x ∷ []) marks marks out out
    unfolding name_adds name_marks
    name_passed h r = one marks out (puts_as (rw (state_is, state, mark_is, le-ltb m 2 h, r)) (puts_none out)) (rw (state_is, state, mark_is, le-ltb m 2 h))
