-- What the line parser answers lies in the row: codes are small, counts and indices at most the number of tokens.
use Rattle.diag.specs.declared.Code.{Code}
use Rattle.diag.specs.declared.Code.TheVariants.{Unexpected, UnterminatedString, UnknownName, NoDirection, TooLarge, WrongArity, Duplicate}
use Rattle.std.specs.Prelude.{Err, None, Option, Some}
use mathlib.Core.Path.{◌≡◌, refl, sym, ap, subst, ◌∙◌}
use mathlib.Core.Bool.{Bool, true, false, cond, false≢true}
use mathlib.Core.List.{List, [], ◌∷◌}
use Prim.Native.Nat.{ℕ, zero, suc, ◌+◌, ◌≤◌, ◌<◌}
use native.Mathlib.Omega.{arith}
use borrow.Author.Tests.{eqb-true, ltb-true, ltb-false, ne_eqb}
use native.Mathlib.Nat.{le_of_suc-le-suc}
use lib.Dec.{eqb, ltb}
use lib.ListN.{length}
use Rattle.tokens.specs.declared.Token.{Token}
use Rattle.parser.specs.declared.Parts.{Parts}
use Rattle.parser.specs.declared.ItemKind.{ItemKind}
use Rattle.parser.specs.declared.ItemKind.TheVariants.{Machine, Kind, Input, Output, Tapes, States, InputAlphabet, TapeAlphabet, Blank, Start, Final, Transition}
use Rattle.parser.specs.declared.Lead.TheVariants.{Equals}
use Rattle.parser.specs.declared.Item.{Item}
use Rattle.diag.proofs.Cases.{by_test_lem}
use Rattle.parser.specs.Row.{peek}
use Rattle.parser.specs.Views.{is_kind, is_choice, is_state, is_symbol, is_write, is_direction, is_text, keyword_of, lead_of}
use Rattle.parser.specs.Lines.{Parsed, Done, Answer, Empty, Comment, Read, Parser, then, code_of, unexpected, one, direction, separator, entries_from, entries, set, tuple, read_entry, output, side, equals, left_parts, no_parts, left, right, transition, plain, value, newline_at, finish, value_at, item_of, item_from, item, is_comment, line, line_length, line_end, code_number}
use Rattle.parser.proofs.Laws.{inside}
use Rattle.assembler.proofs.Braces.{balanced, between, Even, one_done, reads_even, balanced_sign}
use Rattle.parser.proofs.Lists.{Within, Steps, on_test, direction_steps, separator_steps, entries-within, state_steps, symbol_steps, write_steps, read_steps}
use Rattle.parser.proofs.Rules.{side_steps, kind_steps, choice_steps, set_steps, tuple_steps, output_steps, equals_steps, Ends, value_ends}

-- ---- tokens that end no line
-- no line feed stands from the index i to before j
abbrev pub Free : List Token → ℕ → ℕ → Type 0
Free ts i j = (k : ℕ) → i ≤ k → k < j → eqb (peek ts k).kind 13 ≡ false

pub free_one : (ts : List Token) (i : ℕ) → eqb (peek ts i).kind 13 ≡ false → Free ts i (i + 1)
free_one ts i e k a b = let z : k ≡ i = omega arith in ap (λ (k : ℕ). eqb (peek ts k).kind 13) z ∙ e

pub free_on : (ts : List Token) (i j k : ℕ) → Free ts i j → Free ts j k → Free ts i k
free_on ts i j k f g n a b = by_test_lem (ltb n j) (λ y. f n a (ltb-true n j y)) (λ y. g n (ltb-false n j y) b)

-- a test that no line feed passes
abbrev pub Solid : (Token → Bool) → Type 0
Solid f = (t : Token) → f t ≡ true → eqb t.kind 13 ≡ false

pub kind_solid : (t : Token) (n : ℕ) → n < 13 → eqb t.kind n ≡ true → eqb t.kind 13 ≡ false
kind_solid t n h e = let z : t.kind ≡ n = eqb-true t.kind n e in ne_eqb t.kind 13 (omega arith)

solid_kind : (n : ℕ) → n < 13 → Solid (is_kind n)
unfolding is_kind
solid_kind n h t e = kind_solid t n h e

solid_choice : (a b : ℕ) → Solid (is_choice a b)
unfolding is_choice
solid_choice a b t e = by_test_lem (eqb t.kind 0) (λ y. kind_solid t 0 (omega arith) y) (λ n. absurd (false≢true (rw n at e)))

pub solid_state : Solid is_state
unfolding is_state
solid_state t e = by_test_lem (eqb t.kind 0) (λ y. kind_solid t 0 (omega arith) y) (λ n. absurd (false≢true (rw n at e)))

pub solid_symbol : Solid is_symbol
unfolding is_symbol
solid_symbol t e =
    by_test_lem (eqb t.kind 0) (λ y. kind_solid t 0 (omega arith) y) λ n₀.
    by_test_lem (eqb t.kind 1) (λ y. kind_solid t 1 (omega arith) y) λ n₁.
    by_test_lem (eqb t.kind 2) (λ y. kind_solid t 2 (omega arith) y) λ n₂.
    by_test_lem (eqb t.kind 11) (λ y. kind_solid t 11 (omega arith) y) λ n₃. absurd (false≢true (rw (n₀, n₁, n₂, n₃) at e))

pub solid_write : Solid is_write
unfolding is_write
solid_write t e = by_test_lem (eqb t.kind 10) (λ y. kind_solid t 10 (omega arith) y) (λ n. solid_symbol t (rw n at e))

pub solid_direction : Solid is_direction
unfolding is_direction
solid_direction t e =
    by_test_lem (eqb t.kind 0) (λ y. kind_solid t 0 (omega arith) y) λ n₀.
    by_test_lem (eqb t.kind 2) (λ y. kind_solid t 2 (omega arith) y) λ n₂. absurd (false≢true (rw (n₀, n₂) at e))

-- ---- a parser's answer: no more entries than the index behind them, no line feed among them, and a code that fits an entry
abbrev pub Fair : List Token → ℕ → Parsed ℕ → Type 0
Fair ts i (Done j n) = (n ≤ j) × Free ts i j
Fair ts i (Err bad) = code_number bad.code ≤ 11

pub record Fairly (p : Parser) : Type 0 where
  pub fair : (ts : List Token) (i : ℕ) → Fair ts i (p ts i)

-- from an earlier index on
fair_from : (ts : List Token) (i j : ℕ) (r : Parsed ℕ) → Free ts i j → Fair ts j r → Fair ts i r
fair_from ts i j (Done k n) f h = (h.0, free_on ts i j k f h.1)
fair_from ts i j (Err bad) f h = h

code_low : (c : Code) → code_number c ≤ 11
unfolding code_number
code_low Unexpected = omega arith
code_low UnterminatedString = omega arith
code_low UnknownName = omega arith
code_low NoDirection = omega arith
code_low TooLarge = omega arith
code_low WrongArity = omega arith
code_low Duplicate = omega arith

unexpected_fair : (ts : List Token) (i : ℕ) (t : Token) → Fair ts i (Err (unexpected t))
unfolding unexpected
unexpected_fair ts i t = code_low (code_of t)

one_fair : (f : Token → Bool) → Solid f → Fairly (one f)
unfolding one
one_fair f s = record { fair = λ ts i. on_test (Fair ts i) (f (peek ts i)) (λ y. (omega arith, free_one ts i (s (peek ts i) y))) (λ _. unexpected_fair ts i (peek ts i)) }

kind_fair : (n : ℕ) → n < 13 → Fairly (one (is_kind n))
kind_fair n h = one_fair (is_kind n) (solid_kind n h)

direction_fair : Fairly direction
unfolding direction
direction_fair = record {
  fair = λ ts i.
      on_test (Fair ts i) (is_direction (peek ts i)) (λ y. (omega arith, free_one ts i (solid_direction (peek ts i) y)))
      (λ _. on_test (Fair ts i) (is_text (peek ts i)) (λ _. code_low NoDirection) (λ _. unexpected_fair ts i (peek ts i)));
}

separator_fair : (close : ℕ) → close < 13 → Fairly (separator close)
unfolding separator
separator_fair close h = record {
  fair = λ ts i.
      on_test (Fair ts i) (eqb (peek ts i).kind 8) (λ y. (omega arith, free_one ts i (kind_solid (peek ts i) 8 (omega arith) y)))
      (λ _. on_test (Fair ts i) (eqb (peek ts i).kind close) (λ y. (omega arith, free_one ts i (kind_solid (peek ts i) close h y))) (λ _. unexpected_fair ts i (peek ts i)));
}

-- one parser, and then another
then_fair : (ts : List Token) (i : ℕ) (r : Parsed ℕ) (f : ℕ → ℕ → Parsed ℕ) → Fair ts i r → ((j n : ℕ) → r ≡ Done j n → Fair ts j (f j n)) → Fair ts i (then r f)
unfolding then
then_fair ts i (Done j n) f h g = fair_from ts i j (f j n) h.1 (g j n refl)
then_fair ts i (Err bad) f h g = h

-- what an answer that is done says
pub done_within : (p : Parser) (ts : List Token) (i j n : ℕ) → Steps p → p ts i ≡ Done j n → (i < j) × (j ≤ length ts)
done_within p ts i j n s e = subst (Within ts i) e (s.within ts i)

done_fair : (p : Parser) (ts : List Token) (i j n : ℕ) → Fairly p → p ts i ≡ Done j n → (n ≤ j) × Free ts i j
done_fair p ts i j n f e = subst (Fair ts i) e (f.fair ts i)

module _ (p : Parser) (steps : Steps p) (fairly : Fairly p) (close : ℕ) (low : close < 13) (ts : List Token) where
  from_fair : (k i n : ℕ) → n ≤ i → Fair ts i (entries_from p close ts k i n)
  unfolding entries_from
  from_fair zero i n h = unexpected_fair ts i (peek ts i)
  from_fair (suc k) i n h =
      then_fair ts i (p ts i) (λ j _. then (separator close ts j) λ next more. elim (eqb more 0) [ true ↦ Done next (n + 1) | false ↦ entries_from p close ts k next (n + 1) ])
      (fairly.fair ts i) λ j m e.
      then_fair ts j (separator close ts j) (λ next more. elim (eqb more 0) [ true ↦ Done next (n + 1) | false ↦ entries_from p close ts k next (n + 1) ])
      ((separator_fair close low).fair ts j) λ next more d.
      let a = done_within p ts i j m steps e in
      let b = done_within (separator close) ts j next more (separator_steps close low) d in
      let few : n + 1 ≤ next = omega arith in
      elim (eqb more 0) as (λ (x : Bool). Fair ts next (elim x [ true ↦ Done next (n + 1) | false ↦ entries_from p close ts k next (n + 1) ]))
      [ true ↦ (few, λ k a b. absurd (omega arith)) | false ↦ from_fair k next (n + 1) few ]

  entries_fair : (i : ℕ) → Fair ts i (entries p close ts i 0)
  unfolding entries
  entries_fair i = from_fair (suc (length ts)) i 0 (omega arith)

set_fair : (p : Parser) → Steps p → Fairly p → Fairly (set p)
unfolding set
set_fair p s f = record {
  fair = λ ts i.
      then_fair ts i (one (is_kind 6) ts i) (λ j _. cond (eqb (peek ts j).kind 7) (Done (j + 1) 0) (entries p 7 ts j 0)) ((kind_fair 6 (omega arith)).fair ts i) λ j n e.
      on_test (Fair ts j) (eqb (peek ts j).kind 7) (λ y. (omega arith, free_one ts j (kind_solid (peek ts j) 7 (omega arith) y))) (λ _. entries_fair p s f 7 (omega arith) ts j);
}

tuple_fair : (p : Parser) → Steps p → Fairly p → Fairly (tuple p)
unfolding tuple
tuple_fair p s f = record {
  fair = λ ts i.
      on_test (Fair ts i) (eqb (peek ts i).kind 4)
      (λ y. fair_from ts i (i + 1) (entries p 5 ts (i + 1) 0) (free_one ts i (kind_solid (peek ts i) 4 (omega arith) y)) (entries_fair p s f 5 (omega arith) ts (i + 1))) (λ _. f.fair ts i);
}

read_fair : Fairly read_entry
unfolding read_entry
read_fair = record {
  fair = λ ts i.
      on_test (Fair ts i) (eqb (peek ts i).kind 6)
      (λ y.
      fair_from ts i (i + 1) (then (entries (one is_symbol) 7 ts (i + 1) 0) λ j _. Done j 1) (free_one ts i (kind_solid (peek ts i) 6 (omega arith) y))
      (then_fair ts (i + 1) (entries (one is_symbol) 7 ts (i + 1) 0) (λ j _. Done j 1) (entries_fair (one is_symbol) symbol_steps (one_fair is_symbol solid_symbol) 7 (omega arith) ts (i + 1)) λ j n e.
      let a : (i + 1 < j) × (j ≤ length ts) = subst (Within ts (i + 1)) e (entries-within (one is_symbol) symbol_steps 7 (omega arith) ts (i + 1) 0) in
      (omega arith, λ k a b. absurd (omega arith))))
      (λ _. (one_fair is_symbol solid_symbol).fair ts i);
}

output_fair : Fairly output
unfolding output
output_fair = record {
  fair = λ ts i.
      then_fair ts i (one (is_choice 0x110014 0x110016) ts i)
      (λ j _. cond (eqb (peek ts i).value 0x110015) (one is_symbol ts j) (cond (eqb (peek ts i).value 0x110016) (one (is_choice 0x110017 0x110018) ts j) (Done j 1)))
      ((one_fair (is_choice 0x110014 0x110016) (solid_choice 0x110014 0x110016)).fair ts i) λ j n e.
      let a = done_within (one (is_choice 0x110014 0x110016)) ts i j n (choice_steps 0x110014 0x110016) e in
      on_test (Fair ts j) (eqb (peek ts i).value 0x110015) (λ _. (one_fair is_symbol solid_symbol).fair ts j) λ _.
      on_test (Fair ts j) (eqb (peek ts i).value 0x110016) (λ _. (one_fair (is_choice 0x110017 0x110018) (solid_choice 0x110017 0x110018)).fair ts j) λ _.
      (omega arith, λ k a b. absurd (omega arith));
}

side_fair : Fairly side
unfolding side
side_fair = record {
  fair = λ ts i.
      then_fair ts i (one (is_kind 4) ts i) (λ j _. then (one is_state ts j) λ k _. one (is_kind 8) ts k) ((kind_fair 4 (omega arith)).fair ts i) λ j n e.
      then_fair ts j (one is_state ts j) (λ k _. one (is_kind 8) ts k) ((one_fair is_state solid_state).fair ts j) λ k m d. (kind_fair 8 (omega arith)).fair ts k;
}

equals_fair : Fairly equals
unfolding equals
equals_fair = record {
  fair = λ ts i. then_fair ts i (one (is_kind 5) ts i) (λ j _. one (is_kind 9) ts j) ((kind_fair 5 (omega arith)).fair ts i) λ j n e. (kind_fair 9 (omega arith)).fair ts j;
}

-- ---- what the small parsers gave
pub then_done : (r : Parsed ℕ) (f : ℕ → ℕ → Parsed ℕ) (j n : ℕ) {X : Type 0} → then r f ≡ Done j n → ((i m : ℕ) → r ≡ Done i m → f i m ≡ Done j n → X) → X
unfolding then
then_done (Done i m) f j n e g = g i m refl e
then_done (Err bad) f j n e g = absurd (let z : ◌≡◌ {A = ℕ} 0 1 = cc in omega arith)

pub kind_done : (ts : List Token) (k i j n : ℕ) → one (is_kind k) ts i ≡ Done j n → (j ≡ i + 1) × (eqb (peek ts i).kind k ≡ true)
unfolding is_kind
kind_done ts k i j n e = one_done (is_kind k) ts i j n e

pub side_done : (ts : List Token) (i j n : ℕ) → side ts i ≡ Done j n → (j ≡ i + 3) × (eqb (peek ts i).kind 4 ≡ true) × (is_state (peek ts (i + 1)) ≡ true)
unfolding side
side_done ts i j n e =
    then_done (one (is_kind 4) ts i) (λ j _. then (one is_state ts j) λ k _. one (is_kind 8) ts k) j n e λ a x p q.
    then_done (one is_state ts a) (λ k _. one (is_kind 8) ts k) j n q λ b y r s.
    let u = kind_done ts 4 i a x p in
    let v = one_done is_state ts a b y r in
    let w = kind_done ts 8 b j n s in
    (omega arith, u.1, ap (λ (k : ℕ). is_state (peek ts k)) (sym u.0) ∙ v.1)

equals_done : (ts : List Token) (i j n : ℕ) → equals ts i ≡ Done j n → (j ≡ i + 2) × (eqb (peek ts i).kind 5 ≡ true) × (eqb (peek ts (i + 1)).kind 9 ≡ true)
unfolding equals
equals_done ts i j n e =
    then_done (one (is_kind 5) ts i) (λ j _. one (is_kind 9) ts j) j n e λ a x p q.
    let u = kind_done ts 5 i a x p in
    let v = kind_done ts 9 a j n q in
    (omega arith, u.1, ap (λ (k : ℕ). eqb (peek ts k).kind 9) (sym u.0) ∙ v.1)

-- ---- the value of an item: where it fails the code fits, where it ends a property holds
abbrev Gives : (ℕ → Parts → Type 0) → Parsed Parts → Type 0
Gives Q (Done j q) = Q j q
Gives Q (Err bad) = code_number bad.code ≤ 11

on_gives : (Q : ℕ → Parts → Type 0) (ts : List Token) (i : ℕ) (r : Parsed ℕ) (f : ℕ → ℕ → Parsed Parts) → Fair ts i r → ((j n : ℕ) → r ≡ Done j n → Gives Q (f j n)) → Gives Q (then r f)
unfolding then
on_gives Q ts i (Done j n) f h g = g j n refl
on_gives Q ts i (Err bad) f h g = h

-- what a rule reads, n entries, up to before the index j: `)` and `=` stand behind it
pub record Reading (ts : List Token) (j n : ℕ) : Type 0 where
  pub stop : ℕ
  pub list : tuple read_entry ts 4 ≡ Done stop n
  pub closes : eqb (peek ts stop).kind 5 ≡ true
  pub equal : eqb (peek ts (stop + 1)).kind 9 ≡ true
  pub end : j ≡ stop + 2

-- the lists of a rule up to before the index j
pub record Lists (ts : List Token) (j : ℕ) (q : Parts) : Type 0 where
  pub from : q.from ≡ 2
  pub state : is_state (peek ts 2) ≡ true
  pub side : ℕ
  pub reading : Reading ts side q.reads
  pub opens : eqb (peek ts side).kind 4 ≡ true
  pub to : q.to ≡ side + 1
  pub next : is_state (peek ts q.to) ≡ true
  pub write : q.write ≡ side + 3
  pub write_stop : ℕ
  pub writing : tuple (one is_write) ts q.write ≡ Done write_stop q.writes
  pub comma : eqb (peek ts write_stop).kind 8 ≡ true
  pub dir : q.dir ≡ write_stop + 1
  pub dir_stop : ℕ
  pub moving : tuple direction ts q.dir ≡ Done dir_stop q.dirs
  pub last : eqb (peek ts dir_stop).kind 5 ≡ true
  pub end : j ≡ dir_stop + 1

-- a rule up to before the index j: its state stands behind `(`, and what it reads, balanced, up to the next state
pub record PartsIn (ts : List Token) (j : ℕ) (q : Parts) : Type 0 where
  pub long : 3 < j
  pub read : q.read ≡ 4
  pub even : balanced false (between ts 4 q.to) ≡ true
  pub reads : q.reads ≤ length ts
  pub to : q.to ≤ length ts
  pub next : (4 < q.to) × (q.to ≤ j)
  pub write : q.write ≤ length ts
  pub writes : q.writes ≤ length ts
  pub dir : q.dir ≤ length ts
  pub dirs : q.dirs ≤ length ts
  pub free : Free ts 0 j
  pub lists : Lists ts j q

record LeftIn (ts : List Token) (j : ℕ) (q : Parts) : Type 0 where
  from : q.from ≡ 2
  state : is_state (peek ts 2) ≡ true
  reading : Reading ts j q.reads
  long : 3 < j
  read : q.read ≡ 4
  even : balanced false (between ts 4 j) ≡ true
  reads : q.reads ≤ length ts
  free : Free ts 0 j

pub reads_steps : Steps (tuple read_entry)
reads_steps = tuple_steps read_entry read_steps

pub writes_steps : Steps (tuple (one is_write))
writes_steps = tuple_steps (one is_write) write_steps

pub dirs_steps : Steps (tuple direction)
dirs_steps = tuple_steps direction direction_steps

reads_fair : Fairly (tuple read_entry)
reads_fair = tuple_fair read_entry read_steps read_fair

writes_fair : Fairly (tuple (one is_write))
writes_fair = tuple_fair (one is_write) write_steps (one_fair is_write solid_write)

dirs_fair : Fairly (tuple direction)
dirs_fair = tuple_fair direction direction_steps direction_fair

left_gives : (ts : List Token) → Gives (LeftIn ts) (left ts 0)
unfolding left
left_gives ts =
    on_gives (LeftIn ts) ts 0 (one (is_kind 0) ts 0)
    (λ j _. then (side ts j) λ read _. then (tuple read_entry ts read) λ k reads. then (equals ts k) λ end _. Done end (left_parts (j + 1) read reads)) ((kind_fair 0 (omega arith)).fair ts 0) λ j o a.
    on_gives (LeftIn ts) ts j (side ts j) (λ read _. then (tuple read_entry ts read) λ k reads. then (equals ts k) λ end _. Done end (left_parts (j + 1) read reads)) (side_fair.fair ts j) λ read m b.
    on_gives (LeftIn ts) ts read (tuple read_entry ts read) (λ k reads. then (equals ts k) λ end _. Done end (left_parts (j + 1) read reads)) (reads_fair.fair ts read) λ k reads c.
    on_gives (LeftIn ts) ts k (equals ts k) (λ end _. Done end (left_parts (j + 1) read reads)) (equals_fair.fair ts k) λ end n d.
    let a₁ = kind_done ts 0 0 j o a in
    let b₁ = side_done ts j read m b in
    let d₁ = equals_done ts k end n d in
    let four : read ≡ 4 = omega arith in
    let a₂ = done_fair (one (is_kind 0)) ts 0 j o (kind_fair 0 (omega arith)) a in
    let b₂ = done_fair side ts j read m side_fair b in
    let c₁ = done_within (tuple read_entry) ts read k reads reads_steps c in
    let c₂ = done_fair (tuple read_entry) ts read k reads reads_fair c in
    let d₂ = done_fair equals ts k end n equals_fair d in
    let d₃ = done_within equals ts k end n equals_steps d in
    let c₃ : (read ≤ k) × (balanced false (between ts read k) ≡ true) = subst (Even false ts read) c (reads_even ts read) in
    let e₀ : balanced false (between ts 4 k) ≡ true = subst (λ (x : ℕ). balanced false (between ts x k) ≡ true) four c₃.1 in
    let e₁ : balanced false (between ts 4 (k + 1)) ≡ true = balanced_sign ts 4 k 5 (omega arith) (omega arith) d₁.1 (λ z. omega arith) (λ z. omega arith) e₀ in
    let e₂ : balanced false (between ts 4 (k + 1 + 1)) ≡ true = balanced_sign ts 4 (k + 1) 9 (omega arith) (omega arith) d₁.2 (λ z. omega arith) (λ z. omega arith) e₁ in
    let last : k + 1 + 1 ≡ end = omega arith in
    let two : j + 1 ≡ 2 = omega arith in
    record {
      from = two;
      state = ap (λ (k : ℕ). is_state (peek ts k)) (sym two) ∙ b₁.2;
      reading = record { stop = k; list = ap (tuple read_entry ts) (sym four) ∙ c; closes = d₁.1; equal = d₁.2; end = omega arith };
      long = omega arith;
      read = four;
      even = subst (λ (x : ℕ). balanced false (between ts 4 x) ≡ true) last e₂;
      reads = omega arith;
      free = free_on ts 0 k end (free_on ts 0 read k (free_on ts 0 j read a₂.1 b₂.1) c₂.1) d₂.1;
    }

right_gives : (l : Parts) (ts : List Token) (i : ℕ) → LeftIn ts i l → Gives (PartsIn ts) (right l ts i)
unfolding right
right_gives l ts i h =
    let R : ℕ → ℕ → ℕ → ℕ → Parts = λ write writes dir dirs. record { from = l.from; read = l.read; reads = l.reads; to = i + 1; write = write; writes = writes; dir = dir; dirs = dirs } in
    on_gives (PartsIn ts) ts i (side ts i)
    (λ write _. then (tuple (one is_write) ts write) λ j writes. then (one (is_kind 8) ts j) λ dir _. then (tuple direction ts dir) λ k dirs. then (one (is_kind 5) ts k) λ end _. Done end (R write writes dir dirs))
    (side_fair.fair ts i) λ write m a.
    on_gives (PartsIn ts) ts write (tuple (one is_write) ts write)
    (λ j writes. then (one (is_kind 8) ts j) λ dir _. then (tuple direction ts dir) λ k dirs. then (one (is_kind 5) ts k) λ end _. Done end (R write writes dir dirs)) (writes_fair.fair ts write) λ j writes b.
    on_gives (PartsIn ts) ts j (one (is_kind 8) ts j) (λ dir _. then (tuple direction ts dir) λ k dirs. then (one (is_kind 5) ts k) λ end _. Done end (R write writes dir dirs)) ((kind_fair 8 (omega arith)).fair ts j) λ dir n c.
    on_gives (PartsIn ts) ts dir (tuple direction ts dir) (λ k dirs. then (one (is_kind 5) ts k) λ end _. Done end (R write writes dir dirs)) (dirs_fair.fair ts dir) λ k dirs d.
    on_gives (PartsIn ts) ts k (one (is_kind 5) ts k) (λ end _. Done end (R write writes dir dirs)) ((kind_fair 5 (omega arith)).fair ts k) λ end o e.
    let a₁ = side_done ts i write m a in
    let a₂ = done_fair side ts i write m side_fair a in
    let a₃ = done_within side ts i write m side_steps a in
    let b₁ = done_within (tuple (one is_write)) ts write j writes writes_steps b in
    let b₂ = done_fair (tuple (one is_write)) ts write j writes writes_fair b in
    let c₁ = done_within (one (is_kind 8)) ts j dir n (kind_steps 8 (omega arith)) c in
    let c₂ = done_fair (one (is_kind 8)) ts j dir n (kind_fair 8 (omega arith)) c in
    let d₁ = done_within (tuple direction) ts dir k dirs dirs_steps d in
    let d₂ = done_fair (tuple direction) ts dir k dirs dirs_fair d in
    let e₁ = done_within (one (is_kind 5)) ts k end o (kind_steps 5 (omega arith)) e in
    let e₂ = done_fair (one (is_kind 5)) ts k end o (kind_fair 5 (omega arith)) e in
    record {
      long = omega (arith, h.long);
      read = h.read;
      even = balanced_sign ts 4 i 4 (omega (arith, h.long)) (omega arith) a₁.1 (λ z. omega arith) (λ z. omega arith) h.even;
      reads = h.reads;
      to = omega arith;
      next = (omega (arith, h.long), omega arith);
      write = omega arith;
      writes = omega arith;
      dir = omega arith;
      dirs = omega arith;
      free = free_on ts 0 k end (free_on ts 0 dir k (free_on ts 0 j dir (free_on ts 0 write j (free_on ts 0 i write h.free a₂.1) b₂.1) c₂.1) d₂.1) e₂.1;
      lists = record {
        from = h.from;
        state = h.state;
        side = i;
        reading = h.reading;
        opens = a₁.1;
        to = refl;
        next = a₁.2;
        write = a₁.0;
        write_stop = j;
        writing = b;
        comma = (kind_done ts 8 j dir n c).1;
        dir = (kind_done ts 8 j dir n c).0;
        dir_stop = k;
        moving = d;
        last = (kind_done ts 5 k end o e).1;
        end = (kind_done ts 5 k end o e).0;
      };
    }

transition_gives : (ts : List Token) → Gives (PartsIn ts) (transition ts 0)
unfolding transition then
transition_gives ts = go (left ts 0) (left_gives ts)
  where
    go : (v : Parsed Parts) → Gives (LeftIn ts) v → Gives (PartsIn ts) (then v λ j l. right l ts j)
    go (Done j l) g = right_gives l ts j g
    go (Err bad) g = g

-- ---- lines
-- the line feed of an item is the line's; it follows the item, or the item's comment; `=` stands behind a keyword that takes it
pub record ItemIn (ts : List Token) (x : Item) : Type 0 where
  pub newline : x.newline ≤ length ts
  pub feeds : line_end ts 0 ≡ x.newline
  pub ends : x.newline ≡ newline_at ts x.end
  pub behind : x.end ≤ x.newline
  pub low : x.end ≤ length ts
  pub assigned : lead_of x.kind ≡ Equals → (x.value ≡ 2) × (eqb (peek ts 1).kind 9 ≡ true) × (2 < x.end)
  pub tapes : x.kind ≡ Tapes → eqb (peek ts 2).kind 1 ≡ true
  pub parts : x.kind ≡ Transition → PartsIn ts x.end x.parts

abbrev pub LineIn : List Token → Answer → Type 0
LineIn ts Empty = eqb (peek ts 0).kind 13 ≡ true
LineIn ts (Comment i) = (eqb (peek ts 0).kind 12 ≡ true) × (eqb (peek ts 1).kind 13 ≡ true)
LineIn ts (Read x) = ItemIn ts x
LineIn ts (Err bad) = code_number bad.code ≤ 11

-- the first line feed
feed_at : (ts : List Token) (n : ℕ) → n ≤ length ts → Free ts 0 n → eqb (peek ts n).kind 13 ≡ true → line_length ts ≡ n
unfolding line_length
feed_at [] zero h f e = refl
feed_at [] (suc n) h f e = absurd (omega arith)
feed_at (t ∷ ts) zero h f e = ap (λ (b : Bool). elim b [ true ↦ 0 | false ↦ suc (line_length ts) ]) e
feed_at (t ∷ ts) (suc n) h f e =
    ap (λ (b : Bool). elim b [ true ↦ 0 | false ↦ suc (line_length ts) ]) (f 0 (omega arith) (omega arith))
    ∙ ap suc (feed_at ts n (le_of_suc-le-suc h) (λ k a b. f (suc k) (omega arith) (omega arith)) e)

newline_in : (ts : List Token) (j : ℕ) → j ≤ length ts → Free ts 0 j → (newline_at ts j ≤ length ts) × Free ts 0 (newline_at ts j)
unfolding newline_at is_kind
newline_in ts j h f =
    on_test (λ (n : ℕ). (n ≤ length ts) × Free ts 0 n) (eqb (peek ts j).kind 12)
    (λ y. let g = inside (is_kind 12) ts j refl y in (omega arith, free_on ts 0 j (j + 1) f (free_one ts j (kind_solid (peek ts j) 12 (omega arith) y)))) (λ _. (h, f))

pub newline_high : (ts : List Token) (j : ℕ) → j ≤ newline_at ts j
unfolding newline_at
newline_high ts j = on_test (λ (n : ℕ). j ≤ n) (eqb (peek ts j).kind 12) (λ _. omega arith) (λ _. omega arith)

module _ (k : ItemKind) (ts : List Token) (v j : ℕ) (q : Parts) (h : j ≤ length ts) (f : Free ts 0 j) (a : lead_of k ≡ Equals → (v ≡ 2) × (eqb (peek ts 1).kind 9 ≡ true) × (2 < j))
    (t : k ≡ Tapes → eqb (peek ts 2).kind 1 ≡ true) (p : k ≡ Transition → PartsIn ts j q) where
  finish_in : LineIn ts (finish k ts 0 v j q)
  unfolding finish line_end
  finish_in =
      let n = newline_in ts j h f in
      on_test (LineIn ts) (eqb (peek ts (newline_at ts j)).kind 13)
      (λ y. record {
        newline = n.0;
        feeds = let e : 0 + line_length ts ≡ line_length ts = omega arith in e ∙ feed_at ts (newline_at ts j) n.0 n.1 y;
        ends = refl;
        behind = newline_high ts j;
        low = h;
        assigned = a;
        tapes = t;
        parts = p;
      }) (λ _. code_low (code_of (peek ts (newline_at ts j))))

line_on_in : (ts : List Token) (i : ℕ) (r : Parsed ℕ) (f : ℕ → ℕ → Answer) → Fair ts i r → ((v n : ℕ) → r ≡ Done v n → LineIn ts (f v n)) → LineIn ts (then r f)
unfolding then
line_on_in ts i (Done v n) f h g = g v n refl
line_on_in ts i (Err bad) f h g = h

-- an item whose value has no parts
plain_in : (k : ItemKind) (ts : List Token) (v : ℕ) (r : Parsed ℕ) → (k ≡ Transition → ⊥) → Fair ts v r → Within ts v r → Free ts 0 v
    → (lead_of k ≡ Equals → (v ≡ 2) × (eqb (peek ts 1).kind 9 ≡ true)) → (k ≡ Tapes → (j n : ℕ) → r ≡ Done j n → eqb (peek ts 2).kind 1 ≡ true)
    → LineIn ts (then (plain r) λ j q. finish k ts 0 v j q)
unfolding plain then
plain_in k ts v (Done j n) rule f w free a t =
    finish_in k ts v j no_parts w.1 (free_on ts 0 v j free f.1) (λ e. let x = a e in (x.0, x.1, omega (arith, x.0, w.0))) (λ e. t e j n refl) (λ e. absurd (rule e))
plain_in k ts v (Err bad) rule f w free a t = f

rule_in_lem : (ts : List Token) → LineIn ts (then (transition ts 0) λ j q. finish Transition ts 0 0 j q)
unfolding then value lead_of
rule_in_lem ts = go (transition ts 0) (value_ends Transition ts 0) (transition_gives ts)
  where
    go : (v : Parsed Parts) → Ends ts 0 v → Gives (PartsIn ts) v → LineIn ts (then v λ j q. finish Transition ts 0 0 j q)
    go (Done j q) e g = finish_in Transition ts 0 j q e.1 g.free (λ z. absurd (let z : ◌≡◌ {A = ℕ} 0 1 = cc in omega arith)) (λ z. absurd (let z : ◌≡◌ {A = ℕ} 0 1 = cc in omega arith)) (λ _. g)
    go (Err bad) e g = g

-- the kinds of declarations, by the parser of their values; `=` comes first or not
module _ (ts : List Token) (first : eqb (peek ts 0).kind 0 ≡ true) (k : ItemKind) (p : Parser) (rule : k ≡ Transition → ⊥) (steps : Steps p) (fairly : Fairly p) where
  key : Free ts 0 1
  key = free_one ts 0 (kind_solid (peek ts 0) 0 (omega arith) first)

  straight_in : (lead_of k ≡ Equals → ⊥) → (k ≡ Tapes → ⊥) → LineIn ts (then (plain (p ts 1)) λ j q. finish k ts 0 1 j q)
  straight_in lead tapes = plain_in k ts 1 (p ts 1) rule (fairly.fair ts 1) (steps.within ts 1) key (λ e. absurd (lead e)) (λ e. absurd (tapes e))

  assigned_in : (k ≡ Tapes → (j n : ℕ) → p ts 2 ≡ Done j n → eqb (peek ts 2).kind 1 ≡ true) → LineIn ts (then (one (is_kind 9) ts 1) λ v _. then (plain (p ts v)) λ j q. finish k ts 0 v j q)
  assigned_in tapes =
      line_on_in ts 1 (one (is_kind 9) ts 1) (λ v _. then (plain (p ts v)) λ j q. finish k ts 0 v j q) ((kind_fair 9 (omega arith)).fair ts 1) λ v n e.
      let d = kind_done ts 9 1 v n e in
      let two : v ≡ 2 = omega arith in
      let g = done_fair (one (is_kind 9)) ts 1 v n (kind_fair 9 (omega arith)) e in
      plain_in k ts v (p ts v) rule (fairly.fair ts v) (steps.within ts v) (free_on ts 0 1 v key g.1) (λ _. (two, d.1)) (λ z j n r. tapes z j n (ap (p ts) (sym two) ∙ r))

-- no two kinds are equal
apart : {X : Type 0} → (◌≡◌ {A = ℕ} 0 1) → X
apart e = absurd (omega arith)

symbols_fair : Fairly (one is_symbol)
symbols_fair = one_fair is_symbol solid_symbol

states_fair : Fairly (one is_state)
states_fair = one_fair is_state solid_state

item_of_in : (k : ItemKind) (ts : List Token) → eqb (peek ts 0).kind 0 ≡ true → LineIn ts (item_of k ts 0)
unfolding item_of lead_of value_at then value
item_of_in Machine ts f = straight_in ts f Machine (one (is_kind 3)) (λ e. apart (cc)) (kind_steps 3 (omega arith)) (kind_fair 3 (omega arith)) (λ e. apart (cc)) (λ e. apart (cc))
item_of_in Kind ts f =
    straight_in ts f Kind (one (is_choice 0x110010 0x110013)) (λ e. apart (cc)) (choice_steps 0x110010 0x110013) (one_fair (is_choice 0x110010 0x110013) (solid_choice 0x110010 0x110013)) (λ e. apart (cc)) (λ e. apart (cc))
item_of_in Input ts f = straight_in ts f Input (one (is_kind 3)) (λ e. apart (cc)) (kind_steps 3 (omega arith)) (kind_fair 3 (omega arith)) (λ e. apart (cc)) (λ e. apart (cc))
item_of_in Output ts f = straight_in ts f Output output (λ e. apart (cc)) output_steps output_fair (λ e. apart (cc)) (λ e. apart (cc))
item_of_in Tapes ts f = assigned_in ts f Tapes (one (is_kind 1)) (λ e. apart (cc)) (kind_steps 1 (omega arith)) (kind_fair 1 (omega arith)) (λ e j n r. (kind_done ts 1 2 j n r).1)
item_of_in States ts f = assigned_in ts f States (set (one is_state)) (λ e. apart (cc)) (set_steps (one is_state) state_steps) (set_fair (one is_state) state_steps states_fair) (λ e. apart (cc))
item_of_in InputAlphabet ts f = assigned_in ts f InputAlphabet (set (one is_symbol)) (λ e. apart (cc)) (set_steps (one is_symbol) symbol_steps) (set_fair (one is_symbol) symbol_steps symbols_fair) (λ e. apart (cc))
item_of_in TapeAlphabet ts f = assigned_in ts f TapeAlphabet (set (one is_symbol)) (λ e. apart (cc)) (set_steps (one is_symbol) symbol_steps) (set_fair (one is_symbol) symbol_steps symbols_fair) (λ e. apart (cc))
item_of_in Blank ts f = assigned_in ts f Blank (one is_symbol) (λ e. apart (cc)) symbol_steps symbols_fair (λ e. apart (cc))
item_of_in Start ts f = assigned_in ts f Start (one is_state) (λ e. apart (cc)) state_steps states_fair (λ e. apart (cc))
item_of_in Final ts f = assigned_in ts f Final (set (one is_state)) (λ e. apart (cc)) (set_steps (one is_state) state_steps) (set_fair (one is_state) state_steps states_fair) (λ e. apart (cc))
item_of_in Transition ts f = rule_in_lem ts

-- a keyword is a word
keyword-word : (t : Token) (k : ItemKind) → keyword_of t ≡ Some k → eqb t.kind 0 ≡ true
unfolding keyword_of
keyword-word t k e = by_test_lem (eqb t.kind 0) (λ y. y) (λ n. let z : None ≡ Some k = rw n at e in apart (cc))

item_in : (ts : List Token) → LineIn ts (item ts 0)
unfolding item item_from
item_in ts = go (keyword_of (peek ts 0)) refl
  where
    go : (k : Option ItemKind) → keyword_of (peek ts 0) ≡ k → LineIn ts (item_from k ts 0)
    go (Some k) e = item_of_in k ts (keyword-word (peek ts 0) k e)
    go None e = code_low (code_of (peek ts 0))

comment_in : (ts : List Token) → is_comment ts 0 ≡ true → (eqb (peek ts 0).kind 12 ≡ true) × (eqb (peek ts 1).kind 13 ≡ true)
unfolding is_comment
comment_in ts e = by_test_lem (eqb (peek ts 0).kind 12) (λ y. (y, rw y at e)) (λ n. absurd (false≢true (rw n at e)))

pub line_in : (ts : List Token) → LineIn ts (line ts 0)
unfolding line
line_in ts = on_test (LineIn ts) (eqb (peek ts 0).kind 13) (λ y. y) (λ _. on_test (LineIn ts) (is_comment ts 0) (λ y. comment_in ts y) (λ _. item_in ts))

line_length_in : (ts : List Token) → line_length ts ≤ length ts
unfolding line_length
line_length_in [] = omega arith
line_length_in (t ∷ ts) = go (eqb t.kind 13) (line_length_in ts)
  where
    go : (b : Bool) → line_length ts ≤ length ts → elim b [ true ↦ 0 | false ↦ suc (line_length ts) ] ≤ suc (length ts)
    go true h = omega arith
    go false h = omega arith

pub line_end_in : (ts : List Token) → line_end ts 0 ≤ length ts
unfolding line_end
line_end_in ts = omega (arith, line_length_in ts)
