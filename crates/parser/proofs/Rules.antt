-- Laws of items and lines: a value ends behind where it began, in the row, and each part goes on where the one before it ended.
use Rattle.std.specs.Prelude.{Err}
use mathlib.Core.Path.{◌≡◌, refl, sym, ap, subst, ◌∙◌}
use Prim.Native.Nat.{ℕ, suc, ◌+◌, ◌-◌, ◌≤◌, ◌<◌, ◌^◌}
use native.Mathlib.Omega.{arith}
use native.Mathlib.Numerals.{add-one}
use native.Mathlib.Decide.{dec_lt}
use mathlib.Core.Bool.{Bool, true, false, cond}
use mathlib.Core.List.{List}
use lib.ListN.{length, drop, drop_of_length-le, get_or-eq_default}
use lib.Seq.{drop-cons}
use lib.Dec.{eqb}
use mir.Syntax.{w64}
use mir.Val.{Fits}
use borrow.Author.Tests.{eq-eqb, ne_eqb}
use Rattle.parser.specs.Row.{tokens_in, ended, peek}
use Rattle.parser.specs.Views.{is_kind, is_choice, is_state, is_symbol, is_write}
use Rattle.parser.specs.Lines.{Parsed, Done, Parser, then, one, direction, entries, set, tuple, read_entry, output, side, equals, left_parts, no_parts, left, right, transition, plain, value, line_length, line_end}
use Rattle.tokens.specs.declared.Token.{Token}
use Rattle.parser.specs.declared.Parts.{Parts}
use Rattle.parser.specs.declared.ItemKind.{ItemKind}
use Rattle.parser.specs.declared.ItemKind.TheVariants.{Machine, Kind, Input, Output, Tapes, States, InputAlphabet, TapeAlphabet, Blank, Start, Final, Transition}
use Rattle.parser.proofs.Laws.{inside}
use Rattle.parser.proofs.Single.{kind-ended, next_fits}
use Rattle.parser.proofs.Lists.{Within, Steps, on_test, then_steps, further, one_steps, state_steps, symbol_steps, read_steps, write_steps, direction_steps, entries-within}

-- ---- the parts of a rule
pub side_steps : Steps side
unfolding side
side_steps = record {
  within = λ ts i.
      then_steps ts i (one (is_kind 4) ts i) (λ j _. then (one is_state ts j) λ k _. one (is_kind 8) ts k) ((one_steps (is_kind 4) (kind-ended 4 (omega arith))).within ts i) λ j _ a _.
      further ts i j (then (one is_state ts j) λ k _. one (is_kind 8) ts k) (omega arith)
      (then_steps ts j (one is_state ts j) (λ k _. one (is_kind 8) ts k) (state_steps.within ts j) λ k _ b _.
      further ts j k (one (is_kind 8) ts k) (omega arith) ((one_steps (is_kind 8) (kind-ended 8 (omega arith))).within ts k));
}

pub kind_steps : (k : ℕ) → k < 13 → Steps (one (is_kind k))
kind_steps k h = one_steps (is_kind k) (kind-ended k h)

pub choice_steps : (k m : ℕ) → Steps (one (is_choice k m))
unfolding is_choice
choice_steps k m = one_steps (is_choice k m) refl

pub set_steps : (p : Parser) → Steps p → Steps (set p)
unfolding set is_kind
set_steps p steps = record {
  within = λ ts i.
      then_steps ts i (one (is_kind 6) ts i) (λ j _. cond (eqb (peek ts j).kind 7) (Done (j + 1) 0) (entries p 7 ts j 0)) ((kind_steps 6 (omega arith)).within ts i) λ j _ a _.
      on_test (Within ts i) (eqb (peek ts j).kind 7) (λ y. let h = inside (is_kind 7) ts j refl y in (omega arith, omega arith)) λ _.
      further ts i j (entries p 7 ts j 0) (omega arith) (entries-within p steps 7 (omega arith) ts j 0);
}

pub tuple_steps : (p : Parser) → Steps p → Steps (tuple p)
unfolding tuple
tuple_steps p steps = record {
  within = λ ts i.
      on_test (Within ts i) (eqb (peek ts i).kind 4)
      (λ _. further ts i (i + 1) (entries p 5 ts (i + 1) 0) (omega arith) (entries-within p steps 5 (omega arith) ts (i + 1) 0)) λ _. steps.within ts i;
}

pub output_steps : Steps output
unfolding output
output_steps = record {
  within = λ ts i.
      then_steps ts i (one (is_choice 0x110014 0x110016) ts i)
      (λ j _. cond (eqb (peek ts i).value 0x110015) (one is_symbol ts j) (cond (eqb (peek ts i).value 0x110016) (one (is_choice 0x110017 0x110018) ts j) (Done j 1)))
      ((choice_steps 0x110014 0x110016).within ts i) λ j _ a b.
      on_test (Within ts i) (eqb (peek ts i).value 0x110015) (λ _. further ts i j (one is_symbol ts j) (omega arith) (symbol_steps.within ts j)) λ _.
      on_test (Within ts i) (eqb (peek ts i).value 0x110016) (λ _. further ts i j (one (is_choice 0x110017 0x110018) ts j) (omega arith) ((choice_steps 0x110017 0x110018).within ts j))
      λ _. (a, b);
}

pub equals_steps : Steps equals
unfolding equals
equals_steps = record {
  within = λ ts i.
      then_steps ts i (one (is_kind 5) ts i) (λ j _. one (is_kind 9) ts j) ((kind_steps 5 (omega arith)).within ts i) λ j _ a _.
      further ts i j (one (is_kind 9) ts j) (omega arith) ((kind_steps 9 (omega arith)).within ts j);
}

-- a value that ends behind an index, in the row
abbrev pub Ends : List Token → ℕ → Parsed Parts → Type 0
Ends ts i (Done j q) = (i < j) × (j ≤ length ts)
Ends ts i (Err bad) = Unit {0}

on_ends : (ts : List Token) (i j : ℕ) (r : Parsed ℕ) (f : ℕ → ℕ → Parsed Parts) → i ≤ j → Within ts j r → ((k n : ℕ) → i < k → k ≤ length ts → Ends ts i (f k n)) → Ends ts i (then r f)
unfolding then
on_ends ts i j (Done k n) f l w g = g k n (omega arith) w.1
on_ends ts i j (Err bad) f l w g = tt

plain_ends : (ts : List Token) (i : ℕ) (r : Parsed ℕ) → Within ts i r → Ends ts i (plain r)
unfolding plain
plain_ends ts i r w = on_ends ts i i r (λ end _. Done end no_parts) (omega arith) w (λ k n a b. (a, b))

left_ends : (ts : List Token) (i : ℕ) → Ends ts i (left ts i)
unfolding left
left_ends ts i =
    on_ends ts i i (one (is_kind 0) ts i)
    (λ j _. then (side ts j) λ read _. then (tuple read_entry ts read) λ k reads. then (equals ts k) λ end _. Done end (left_parts (j + 1) read reads)) (omega arith)
    ((kind_steps 0 (omega arith)).within ts i) λ j _ a _.
    on_ends ts i j (side ts j) (λ read _. then (tuple read_entry ts read) λ k reads. then (equals ts k) λ end _. Done end (left_parts (j + 1) read reads)) (omega arith) (side_steps.within ts j) λ read _ b _.
    on_ends ts i read (tuple read_entry ts read) (λ k reads. then (equals ts k) λ end _. Done end (left_parts (j + 1) read reads)) (omega arith) ((tuple_steps read_entry read_steps).within ts read) λ k reads d _.
    on_ends ts i k (equals ts k) (λ end _. Done end (left_parts (j + 1) read reads)) (omega arith) (equals_steps.within ts k) λ end _ e h. (e, h)

right_ends : (l : Parts) (ts : List Token) (i : ℕ) → Ends ts i (right l ts i)
unfolding right
right_ends l ts i =
    let R : ℕ → ℕ → ℕ → ℕ → ℕ → Parts = λ write writes dir dirs end. record { from = l.from; read = l.read; reads = l.reads; to = i + 1; write = write; writes = writes; dir = dir; dirs = dirs } in
    on_ends ts i i (side ts i)
    (λ write _. then (tuple (one is_write) ts write) λ j writes. then (one (is_kind 8) ts j) λ dir _. then (tuple direction ts dir) λ k dirs. then (one (is_kind 5) ts k) λ end _. Done end (R write writes dir dirs end))
    (omega arith) (side_steps.within ts i) λ write _ a _.
    on_ends ts i write (tuple (one is_write) ts write)
    (λ j writes. then (one (is_kind 8) ts j) λ dir _. then (tuple direction ts dir) λ k dirs. then (one (is_kind 5) ts k) λ end _. Done end (R write writes dir dirs end)) (omega arith)
    ((tuple_steps (one is_write) write_steps).within ts write) λ j writes b _.
    on_ends ts i j (one (is_kind 8) ts j) (λ dir _. then (tuple direction ts dir) λ k dirs. then (one (is_kind 5) ts k) λ end _. Done end (R write writes dir dirs end)) (omega arith)
    ((kind_steps 8 (omega arith)).within ts j) λ dir _ d _.
    on_ends ts i dir (tuple direction ts dir) (λ k dirs. then (one (is_kind 5) ts k) λ end _. Done end (R write writes dir dirs end)) (omega arith)
    ((tuple_steps direction direction_steps).within ts dir) λ k dirs e _.
    on_ends ts i k (one (is_kind 5) ts k) (λ end _. Done end (R write writes dir dirs end)) (omega arith) ((kind_steps 5 (omega arith)).within ts k) λ end _ f h. (f, h)

transition_ends : (ts : List Token) (i : ℕ) → Ends ts i (transition ts i)
unfolding transition then
transition_ends ts i = go (left ts i) (left_ends ts i)
  where
    more : (j : ℕ) (v : Parsed Parts) → i < j → Ends ts j v → Ends ts i v
    more j (Done k q) l e = (omega arith, e.1)
    more j (Err bad) l e = tt

    go : (v : Parsed Parts) → Ends ts i v → Ends ts i (then v λ j l. right l ts j)
    go (Done j l) e = more j (right l ts j) e.0 (right_ends l ts j)
    go (Err bad) e = tt

pub value_ends : (k : ItemKind) (ts : List Token) (i : ℕ) → Ends ts i (value k ts i)
unfolding value
value_ends Machine ts i = plain_ends ts i (one (is_kind 3) ts i) ((kind_steps 3 (omega arith)).within ts i)
value_ends Kind ts i = plain_ends ts i (one (is_choice 0x110010 0x110013) ts i) ((choice_steps 0x110010 0x110013).within ts i)
value_ends Input ts i = plain_ends ts i (one (is_kind 3) ts i) ((kind_steps 3 (omega arith)).within ts i)
value_ends Output ts i = plain_ends ts i (output ts i) (output_steps.within ts i)
value_ends Tapes ts i = plain_ends ts i (one (is_kind 1) ts i) ((kind_steps 1 (omega arith)).within ts i)
value_ends States ts i = plain_ends ts i (set (one is_state) ts i) ((set_steps (one is_state) state_steps).within ts i)
value_ends InputAlphabet ts i = plain_ends ts i (set (one is_symbol) ts i) ((set_steps (one is_symbol) symbol_steps).within ts i)
value_ends TapeAlphabet ts i = plain_ends ts i (set (one is_symbol) ts i) ((set_steps (one is_symbol) symbol_steps).within ts i)
value_ends Blank ts i = plain_ends ts i (one is_symbol ts i) (symbol_steps.within ts i)
value_ends Start ts i = plain_ends ts i (one is_state ts i) (state_steps.within ts i)
value_ends Final ts i = plain_ends ts i (set (one is_state) ts i) ((set_steps (one is_state) state_steps).within ts i)
value_ends Transition ts i = transition_ends ts i

pub value_high : (k : ItemKind) (ts : List Token) (v j : ℕ) (q : Parts) (y : Parsed Parts) → y ≡ value k ts v → y ≡ Done j q → 0 < j
value_high k ts v j q y e d = let a : Ends ts v (Done j q) = subst (Ends ts v) (sym e ∙ d) (value_ends k ts v) in omega arith

-- ---- the line's end
module _ (w : List ℕ) (i v : ℕ) (inv : line_end (tokens_in w) i ≡ v) (t : Token) (e : t ≡ peek (tokens_in w) i) where
  pub end_here : t.kind ≡ 13 → i ≡ v
  unfolding line_end line_length
  end_here f = go (dec_lt i (length (tokens_in w)))
    where
      go : Dec (i < length (tokens_in w)) → i ≡ v
      go (yes h) =
          let q : eqb (peek (tokens_in w) i).kind 13 ≡ true = rw (← e) (eq-eqb t.kind 13 f) in
          let z : line_length (drop i (tokens_in w)) ≡ 0 =
          ap line_length (drop-cons (tokens_in w) i ended h) ∙ ap (λ (b : Bool). elim b [ true ↦ 0 | false ↦ suc (line_length (drop (suc i) (tokens_in w))) ]) q in
          omega arith
      go (no h) = let z : line_length (drop i (tokens_in w)) ≡ 0 = rw (drop_of_length-le (tokens_in w) {i = i} (omega arith)) in omega arith

  module _ (f : t.kind ≡ 13 → ⊥) where
    end-inside : i < length (tokens_in w)
    end-inside = go (dec_lt i (length (tokens_in w)))
      where
        go : Dec (i < length (tokens_in w)) → i < length (tokens_in w)
        go (yes h) = h
        go (no h) = absurd (f (ap (λ (x : Token). x.kind) (e ∙ get_or-eq_default (tokens_in w) ended (omega arith))))

    pub end_on : line_end (tokens_in w) (i + 1) ≡ v
    unfolding line_end line_length
    end_on =
        let q : eqb (peek (tokens_in w) i).kind 13 ≡ false = rw (← e) (ne_eqb t.kind 13 f) in
        let z : line_length (drop i (tokens_in w)) ≡ suc (line_length (drop (suc i) (tokens_in w))) =
        ap line_length (drop-cons (tokens_in w) i ended end-inside) ∙ ap (λ (b : Bool). elim b [ true ↦ 0 | false ↦ suc (line_length (drop (suc i) (tokens_in w))) ]) q in
        rw (add-one i) (omega arith)

    pub end_falls : length (tokens_in w) - (i + 1) < length (tokens_in w) - i
    end_falls = omega (arith, end-inside)

    pub end_fits : length w < 2 ^ 64 → Fits w64 (i + 1)
    end_fits g = next_fits w i end-inside g

-- where the line ends, said of the row of words
module _ (w : List ℕ) (i : ℕ) where
  pub line_here : (peek (tokens_in w) i).kind ≡ 13 → i ≡ line_end (tokens_in w) i
  line_here f = end_here w i (line_end (tokens_in w) i) refl (peek (tokens_in w) i) refl f

  pub line_on : ((peek (tokens_in w) i).kind ≡ 13 → ⊥) → line_end (tokens_in w) (i + 1) ≡ line_end (tokens_in w) i
  line_on f = end_on w i (line_end (tokens_in w) i) refl (peek (tokens_in w) i) refl f

  pub line_fits : ((peek (tokens_in w) i).kind ≡ 13 → ⊥) → length w < 2 ^ 64 → Fits w64 (i + 1)
  line_fits f g = end_fits w i (line_end (tokens_in w) i) refl (peek (tokens_in w) i) refl f g

pub ruleset ends = (line_here, line_on, line_fits)
