-- What the line parser took for the value of an item: the answer of the value's parser, and its last token, which is no comment.
use Rattle.diag.specs.declared.Code.{Code}
use Rattle.std.specs.Prelude.{Err, None, Option, Some}
use Rattle.parser.specs.Lines.{Parsed, Done, Failed, Empty, Comment, Read}
use mathlib.Core.Path.{◌≡◌, refl, sym, ap, subst, ◌∙◌}
use mathlib.Core.Bool.{Bool, true, false, cond}
use mathlib.Core.List.{List}
use Prim.Native.Nat.{ℕ, ◌+◌, ◌-◌, ◌<◌}
use native.Mathlib.Omega.{arith}
use borrow.Author.Tests.{eqb-true, ne_eqb}
use lib.Dec.{eqb}
use Rattle.diag.proofs.Cases.{by_test_lem}
use Rattle.diag.specs.declared.Span.{Span as Place}
use Rattle.tokens.specs.declared.Token.{Token}
use Rattle.parser.specs.declared.ItemKind.{ItemKind}
use Rattle.parser.specs.declared.ItemKind.TheVariants.{Machine, Kind, Input, Output, Tapes, States, InputAlphabet, TapeAlphabet, Blank, Start, Final, Transition}
use Rattle.parser.specs.declared.Lead.TheVariants.{Equals, Nothing}
use Rattle.parser.specs.declared.Parts.{Parts}
use Rattle.parser.specs.declared.Item.{Item as Found}
use Rattle.parser.specs.Row.{peek}
use Rattle.parser.specs.Views.{span_of, is_kind, is_choice, is_state, is_symbol, keyword_of, lead_of}
use Rattle.parser.specs.Lines as P
use Rattle.assembler.proofs.Braces.{false_true, one_done}
use Rattle.parser.proofs.Lists.{done_same, Steps, state_steps, symbol_steps}
use Rattle.parser.proofs.Rules.{kind_steps, choice_steps, set_steps, output_steps}
use Rattle.assembler.proofs.Inside.{then_done, done_within}
use Rattle.sheet_theorems.proofs.ListsShown.{Series, last_one, one_more, entries_series}

-- two cases of a line
absurd_line : {X : Type 0} (c : Code) (s : Place) (x : Found) → Failed c s ≡ Read x → X
absurd_line c s x e = absurd (let z : ◌≡◌ {A = ℕ} 0 1 = cc in omega arith)

-- behind the value stands the line's end
finished : (k : ItemKind) (ts : List Token) (v j : ℕ) (q : Parts) (x : Found) → P.finish k ts 0 v j q ≡ Read x → (x.kind ≡ k) × (x.value ≡ v) × (x.end ≡ j)
unfolding P.finish
finished k ts v j q x e =
    by_test_lem (eqb (peek ts (P.newline_at ts j)).kind 13)
    (λ y.
    let r : Found = record { kind = k; value = v; end = j; newline = P.newline_at ts j; span = P.spanning ts 0 j; value_span = P.spanning ts v j; parts = q } in
    let z : Read r ≡ Read x = sym (rw (P.finish, y)) ∙ e in
    let s : r ≡ x = cc in
    (ap (λ (x : Found). x.kind) (sym s), ap (λ (x : Found). x.value) (sym s), ap (λ (x : Found). x.end) (sym s)))
    (λ n. absurd_line (P.code_of (peek ts (P.newline_at ts j))) (span_of (peek ts (P.newline_at ts j))) x (sym (rw (P.finish, n)) ∙ e))

-- a value that the parser p took from the index v on
pub record Taken (p : P.Parser) (ts : List Token) (v : ℕ) (x : Found) : Type 0 where
  pub count : ℕ
  pub read : p ts v ≡ Done x.end count
  pub value : x.value ≡ v

module _ (ts : List Token) (x : Found) where
  value_of : (k : ItemKind) (v : ℕ) (y : Parsed Parts) → P.then y (λ j q. P.finish k ts 0 v j q) ≡ Read x → x.kind ≡ k
  unfolding P.then
  value_of k v (Done j q) e = (finished k ts v j q x e).0
  value_of k v (Err bad) e = absurd_line bad.code bad.span x e

  kind_of_lem : (k : ItemKind) (p : Parsed ℕ) → P.then p (λ v n. P.then (P.value k ts v) (λ j q. P.finish k ts 0 v j q)) ≡ Read x → x.kind ≡ k
  unfolding P.then
  kind_of_lem k (Done v n) e = value_of k v (P.value k ts v) e
  kind_of_lem k (Err bad) e = absurd_line bad.code bad.span x e

  item_from_lem : (w : Option ItemKind) → P.item_from w ts 0 ≡ Read x → P.item_of x.kind ts 0 ≡ Read x
  unfolding P.item_from P.item_of
  item_from_lem (Some k) e = ap (λ (k : ItemKind). P.item_of k ts 0) (kind_of_lem k (P.value_at (lead_of k) ts 0) e) ∙ e
  item_from_lem None e = absurd_line _ _ x e

  pub empty_read : {X : Type 0} → Empty ≡ Read x → X
  empty_read e = absurd (let z : ◌≡◌ {A = ℕ} 0 1 = cc in omega arith)

  comment-read : {X : Type 0} (i : ℕ) → Comment i ≡ Read x → X
  comment-read i e = absurd (let z : ◌≡◌ {A = ℕ} 0 1 = cc in omega arith)

  -- a line that holds an item begins with no line feed
  pub item_begins : P.line ts 0 ≡ Read x → eqb (peek ts 0).kind 13 ≡ false
  unfolding P.line
  item_begins e = by_test_lem (eqb (peek ts 0).kind 13) (λ y. empty_read (sym (rw (P.line, y)) ∙ e)) (λ n. n)

  item_of_lem : P.line ts 0 ≡ Read x → P.item_of x.kind ts 0 ≡ Read x
  unfolding P.line P.item
  item_of_lem e =
      let n = item_begins e in
      by_test_lem (P.is_comment ts 0) (λ y. comment-read 0 (sym (rw (P.line, n, y)) ∙ e)) (λ m. item_from_lem (keyword_of (peek ts 0)) (sym (rw (P.line, n, m)) ∙ e))

  module _ (k : ItemKind) (p : P.Parser) where
    plain-taken : (v : ℕ) (r : Parsed ℕ) → p ts v ≡ r → P.then (P.plain r) (λ j q. P.finish k ts 0 v j q) ≡ Read x → Taken p ts v x
    unfolding P.then P.plain
    plain-taken v (Done j n) q e = let f = finished k ts v j P.no_parts x e in record { count = n; read = q ∙ ap (λ (j : ℕ). Done j n) (sym f.2); value = f.1 }
    plain-taken v (Err bad) q e = absurd_line bad.code bad.span x e

    behind-keyword : P.then (P.value_at Nothing ts 0) (λ v n. P.then (P.plain (p ts v)) (λ j q. P.finish k ts 0 v j q)) ≡ Read x → Taken p ts 1 x
    unfolding P.then P.value_at
    behind-keyword e = plain-taken 1 (p ts 1) refl e

    behind-equals : P.then (P.value_at Equals ts 0) (λ v n. P.then (P.plain (p ts v)) (λ j q. P.finish k ts 0 v j q)) ≡ Read x → Taken p ts 2 x
    unfolding P.then P.value_at P.one P.unexpected
    behind-equals e =
        by_test_lem (is_kind 9 (peek ts 1))
        (λ y. plain-taken 2 (p ts 2) refl (sym (ap (λ (b : Bool). P.then (cond b (Done {A = ℕ} 2 1) (Err (P.unexpected (peek ts 1)))) (λ v n. P.then (P.plain (p ts v)) (λ j q. P.finish k ts 0 v j q))) y) ∙ e))
        (λ m. absurd_line _ _ x (sym (ap (λ (b : Bool). P.then (cond b (Done {A = ℕ} 2 1) (Err (P.unexpected (peek ts 1)))) (λ v n. P.then (P.plain (p ts v)) (λ j q. P.finish k ts 0 v j q))) m) ∙ e))

-- ---- the item of each kind
abbrev pub TakenAs : ItemKind → List Token → Found → Type 0
TakenAs Machine ts x = Taken (P.one (is_kind 3)) ts 1 x
TakenAs Kind ts x = Taken (P.one (is_choice 0x110010 0x110013)) ts 1 x
TakenAs Input ts x = Taken (P.one (is_kind 3)) ts 1 x
TakenAs Output ts x = Taken P.output ts 1 x
TakenAs Tapes ts x = Taken (P.one (is_kind 1)) ts 2 x
TakenAs States ts x = Taken (P.set (P.one is_state)) ts 2 x
TakenAs InputAlphabet ts x = Taken (P.set (P.one is_symbol)) ts 2 x
TakenAs TapeAlphabet ts x = Taken (P.set (P.one is_symbol)) ts 2 x
TakenAs Blank ts x = Taken (P.one is_symbol) ts 2 x
TakenAs Start ts x = Taken (P.one is_state) ts 2 x
TakenAs Final ts x = Taken (P.set (P.one is_state)) ts 2 x
TakenAs Transition ts x = Unit {0}

pub item-taken : (ts : List Token) (x : Found) → P.line ts 0 ≡ Read x → (k : ItemKind) → x.kind ≡ k → TakenAs k ts x
unfolding P.item_of lead_of P.value
item-taken ts x e k q = go k (ap (λ (k : ItemKind). P.item_of k ts 0) (sym q) ∙ item_of_lem ts x e)
  where
    go : (k : ItemKind) → P.item_of k ts 0 ≡ Read x → TakenAs k ts x
    go Machine e = behind-keyword ts x Machine (P.one (is_kind 3)) e
    go Kind e = behind-keyword ts x Kind (P.one (is_choice 0x110010 0x110013)) e
    go Input e = behind-keyword ts x Input (P.one (is_kind 3)) e
    go Output e = behind-keyword ts x Output P.output e
    go Tapes e = behind-equals ts x Tapes (P.one (is_kind 1)) e
    go States e = behind-equals ts x States (P.set (P.one is_state)) e
    go InputAlphabet e = behind-equals ts x InputAlphabet (P.set (P.one is_symbol)) e
    go TapeAlphabet e = behind-equals ts x TapeAlphabet (P.set (P.one is_symbol)) e
    go Blank e = behind-equals ts x Blank (P.one is_symbol) e
    go Start e = behind-equals ts x Start (P.one is_state) e
    go Final e = behind-equals ts x Final (P.set (P.one is_state)) e
    go Transition e = tt

-- ---- the last token of a value is no comment
-- a test that no comment passes
abbrev Spoken : (Token → Bool) → Type 0
Spoken f = (t : Token) → f t ≡ true → eqb t.kind 12 ≡ false

kind_spoken : (t : Token) (n : ℕ) → (n ≡ 12 → ⊥) → eqb t.kind n ≡ true → eqb t.kind 12 ≡ false
kind_spoken t n h e = let z : t.kind ≡ n = eqb-true t.kind n e in ne_eqb t.kind 12 (λ q. h (sym z ∙ q))

spoken_kind : (n : ℕ) → (n ≡ 12 → ⊥) → Spoken (is_kind n)
unfolding is_kind
spoken_kind n h t e = kind_spoken t n h e

spoken_choice : (a b : ℕ) → Spoken (is_choice a b)
unfolding is_choice
spoken_choice a b t e = by_test_lem (eqb t.kind 0) (λ y. kind_spoken t 0 (λ z. omega arith) y) (λ n. false_true (rw n at e))

spoken_state : Spoken is_state
unfolding is_state
spoken_state t e = by_test_lem (eqb t.kind 0) (λ y. kind_spoken t 0 (λ z. omega arith) y) (λ n. false_true (rw n at e))

spoken_symbol : Spoken is_symbol
unfolding is_symbol
spoken_symbol t e =
    by_test_lem (eqb t.kind 0) (λ y. kind_spoken t 0 (λ z. omega arith) y) λ n₀.
    by_test_lem (eqb t.kind 1) (λ y. kind_spoken t 1 (λ z. omega arith) y) λ n₁.
    by_test_lem (eqb t.kind 2) (λ y. kind_spoken t 2 (λ z. omega arith) y) λ n₂.
    by_test_lem (eqb t.kind 11) (λ y. kind_spoken t 11 (λ z. omega arith) y) λ n₃. false_true (rw (n₀, n₁, n₂, n₃) at e)

abbrev Last : List Token → ℕ → Type 0
Last ts j = eqb (peek ts (j - 1)).kind 12 ≡ false

behind_it : (ts : List Token) (i j : ℕ) → j ≡ i + 1 → eqb (peek ts i).kind 12 ≡ false → Last ts j
behind_it ts i j h e = let z : j - 1 ≡ i = omega arith in ap (λ (k : ℕ). eqb (peek ts k).kind 12) z ∙ e

one_ends : (f : Token → Bool) → Spoken f → (ts : List Token) (i j n : ℕ) → P.one f ts i ≡ Done j n → Last ts j
one_ends f s ts i j n e = let o = one_done f ts i j n e in behind_it ts i j o.0 (s (peek ts i) o.1)

series_ends : (f : Token → Bool) (ts : List Token) (i j : ℕ) → Series f 7 ts i j → Last ts j
series_ends f ts i j (last_one y c e) = behind_it ts (i + 1) j (omega arith) (kind_spoken (peek ts (i + 1)) 7 (λ z. omega arith) c)
series_ends f ts i j (one_more y c s) = series_ends f ts (i + 2) j s

set_ends : (f : Token → Bool) (ts : List Token) (i j n : ℕ) → P.set (P.one f) ts i ≡ Done j n → Last ts j
unfolding P.set
set_ends f ts i j n e =
    then_done (P.one (is_kind 6) ts i) (λ j _. cond (eqb (peek ts j).kind 7) (Done (j + 1) 0) (P.entries (P.one f) 7 ts j 0)) j n e λ a x u v.
    by_test_lem (eqb (peek ts a).kind 7)
    (λ y. let z : Done (a + 1) 0 ≡ Done j n = rw y at v in let h : j ≡ a + 1 = sym (done_same z).0 in behind_it ts a j h (kind_spoken (peek ts a) 7 (λ z. omega arith) y))
    (λ x. series_ends f ts a j (entries_series (P.one f) f (one_done f) 7 ts a j n (rw x at v)))

output_ends : (ts : List Token) (i j n : ℕ) → P.output ts i ≡ Done j n → Last ts j
unfolding P.output
output_ends ts i j n e =
    let c = is_choice 0x110014 0x110016 in
    then_done (P.one c ts i) (λ j _. cond (eqb (peek ts i).value 0x110015) (P.one is_symbol ts j) (cond (eqb (peek ts i).value 0x110016) (P.one (is_choice 0x110017 0x110018) ts j) (Done j 1))) j n e λ a x u v.
    by_test_lem (eqb (peek ts i).value 0x110015) (λ y. one_ends is_symbol spoken_symbol ts a j n (rw y at v)) λ m.
    by_test_lem (eqb (peek ts i).value 0x110016) (λ y. one_ends (is_choice 0x110017 0x110018) (spoken_choice 0x110017 0x110018) ts a j n (rw (m, y) at v)) λ k.
    let z : Done a 1 ≡ Done j n = rw (m, k) at v in
    let h : j ≡ a = sym (done_same z).0 in
    subst (Last ts) (sym h) (one_ends c (spoken_choice 0x110014 0x110016) ts i a x u)

pub taken_ends : (ts : List Token) (x : Found) (k : ItemKind) → (k ≡ Transition → ⊥) → TakenAs k ts x → eqb (peek ts (x.end - 1)).kind 12 ≡ false
taken_ends ts x Machine r t = one_ends (is_kind 3) (spoken_kind 3 (λ z. omega arith)) ts 1 x.end t.count t.read
taken_ends ts x Kind r t = one_ends (is_choice 0x110010 0x110013) (spoken_choice 0x110010 0x110013) ts 1 x.end t.count t.read
taken_ends ts x Input r t = one_ends (is_kind 3) (spoken_kind 3 (λ z. omega arith)) ts 1 x.end t.count t.read
taken_ends ts x Output r t = output_ends ts 1 x.end t.count t.read
taken_ends ts x Tapes r t = one_ends (is_kind 1) (spoken_kind 1 (λ z. omega arith)) ts 2 x.end t.count t.read
taken_ends ts x States r t = set_ends is_state ts 2 x.end t.count t.read
taken_ends ts x InputAlphabet r t = set_ends is_symbol ts 2 x.end t.count t.read
taken_ends ts x TapeAlphabet r t = set_ends is_symbol ts 2 x.end t.count t.read
taken_ends ts x Blank r t = one_ends is_symbol spoken_symbol ts 2 x.end t.count t.read
taken_ends ts x Start r t = one_ends is_state spoken_state ts 2 x.end t.count t.read
taken_ends ts x Final r t = set_ends is_state ts 2 x.end t.count t.read
taken_ends ts x Transition r t = absurd (r refl)

-- it ends behind the keyword
module _ (ts : List Token) (x : Found) where
  ends_high : (p : P.Parser) (v : ℕ) → Steps p → Taken p ts v x → v < x.end
  ends_high p v s t = (done_within p ts v x.end t.count s t.read).0

  pub taken_high : (k : ItemKind) → (k ≡ Transition → ⊥) → TakenAs k ts x → 1 < x.end
  taken_high Machine r t = ends_high (P.one (is_kind 3)) 1 (kind_steps 3 (omega arith)) t
  taken_high Kind r t = ends_high (P.one (is_choice 0x110010 0x110013)) 1 (choice_steps 0x110010 0x110013) t
  taken_high Input r t = ends_high (P.one (is_kind 3)) 1 (kind_steps 3 (omega arith)) t
  taken_high Output r t = ends_high P.output 1 output_steps t
  taken_high Tapes r t = omega (arith, ends_high (P.one (is_kind 1)) 2 (kind_steps 1 (omega arith)) t)
  taken_high States r t = omega (arith, ends_high (P.set (P.one is_state)) 2 (set_steps (P.one is_state) state_steps) t)
  taken_high InputAlphabet r t = omega (arith, ends_high (P.set (P.one is_symbol)) 2 (set_steps (P.one is_symbol) symbol_steps) t)
  taken_high TapeAlphabet r t = omega (arith, ends_high (P.set (P.one is_symbol)) 2 (set_steps (P.one is_symbol) symbol_steps) t)
  taken_high Blank r t = omega (arith, ends_high (P.one is_symbol) 2 symbol_steps t)
  taken_high Start r t = omega (arith, ends_high (P.one is_state) 2 state_steps t)
  taken_high Final r t = omega (arith, ends_high (P.set (P.one is_state)) 2 (set_steps (P.one is_state) state_steps) t)
  taken_high Transition r t = absurd (r refl)
