-- Laws of the tokens in a row of words, and of the lines that their entries part.
use mathlib.Core.Path.{◌≡◌, refl, sym, ap, subst, ◌∙◌}
use mathlib.Core.Bool.{Bool, true, false}
use mathlib.Core.List.{List, [], ◌∷◌, ◌++◌}
use Prim.Native.Nat.{ℕ, zero, suc, ◌+◌, ◌-◌, ◌*◌, ◌≤◌, ◌<◌, min, max}
use native.Mathlib.Omega.{arith}
use native.Mathlib.Decide.{dec_lt}
use borrow.Author.Tests.{le-leb, lt-leb, eq-eqb, ne_eqb}
use lib.Dec.{eqb}
use lib.ListN.{length, get_or, take, drop, drop_of_length-le, length-drop}
use lib.Seq.{drop-cons, drop-drop, take-add, take-suc, take_all, get_or-drop}
use Rattle.diag.proofs.Cases.{by_test_lem}
use Rattle.tokens.specs.declared.Token.{Token}
use Rattle.parser.specs.Row.{ended, peek}
use Rattle.parser.specs.Lines.{line_length}
pub use Rattle.assembler_names.proofs.NameLaws.{length-rows, row_read, row_past}
use Rattle.assembler.specs.Rows.{rows}
use Rattle.assembler.specs.Entries.{Entry, entry_at, has_kind, behind, entries_from, entries}
use Rattle.assembler.specs.Feeds.{AllFed}

-- ---- the lines
pub entries_skip : (k i : ℕ) (ts : List Token) → entries_from k i ts ≡ entries_from 0 (i + k) (drop k ts)
unfolding entries_from
entries_skip zero i [] = refl
entries_skip (suc k) i [] = refl
entries_skip zero i (t ∷ ts) = ap (λ (n : ℕ). entries_from 0 n (t ∷ ts)) (omega arith)
entries_skip (suc k) i (t ∷ ts) = entries_skip k (suc i) ts ∙ ap (λ (n : ℕ). entries_from 0 n (drop k ts)) (omega arith)

-- the lines from an index on
abbrev pub entries_at : List Token → ℕ → List Entry
entries_at ts i = entries_from 0 i (drop i ts)

-- a line, and those from the next on
pub entries-step : (ts : List Token) (i : ℕ) → i < length ts → entries_at ts i ≡ entry_at ts i ∷ entries_at ts (i + 1 + behind i (peek ts i))
unfolding entries_from
entries-step ts i h =
    let t : Token = peek ts i in
    let b : ℕ = behind i t in
    let e : suc i + b ≡ i + 1 + b = omega arith in
    ap (entries_from 0 i) (drop-cons ts i ended h)
    ∙ ap (λ (es : List Entry). entry_at ts i ∷ es)
    (entries_skip b (suc i) (drop (suc i) ts) ∙ ap (entries_from 0 (suc i + b)) (drop-drop b (suc i) ts) ∙ ap (entries_at ts) e)

pub entries-end : (ts : List Token) (i : ℕ) → length ts ≤ i → entries_at ts i ≡ []
unfolding entries_from
entries-end ts i h = ap (entries_from 0 i) (drop_of_length-le ts {i = i} h)

-- no more lines than tokens
entries_few_from : (k i : ℕ) (ts : List Token) → length (entries_from k i ts) ≤ length ts
unfolding entries_from
entries_few_from k i [] = omega arith
entries_few_from (suc k) i (t ∷ ts) = omega (arith, entries_few_from k (suc i) ts)
entries_few_from zero i (t ∷ ts) = omega (arith, entries_few_from (behind i t) (suc i) ts)

pub entries_few : (ts : List Token) → length (entries ts) ≤ length ts
unfolding entries
entries_few ts = entries_few_from 0 0 ts

-- where the next line begins
module _ (t : Token) (i : ℕ) where
  pub next-item : 16 ≤ t.kind → (n : ℕ) → n ≡ max i t.value → n + 1 ≡ i + 1 + behind i t
  unfolding behind
  next-item h n e = rw (le-leb 16 t.kind h) (omega arith)

  pub next-comment : t.kind < 16 → t.kind ≡ 12 → i + 2 ≡ i + 1 + behind i t
  unfolding behind
  next-comment h g = rw (lt-leb 16 t.kind h, eq-eqb t.kind 12 g) (omega arith)

  pub next-other : t.kind < 16 → (t.kind ≡ 12 → ⊥) → i + 1 ≡ i + 1 + behind i t
  unfolding behind
  next-other h g = rw (lt-leb 16 t.kind h, ne_eqb t.kind 12 g) (omega arith)

-- ---- lines that end at their line feeds
module _ (ts : List Token) (i : ℕ) (f : AllFed (entries_at ts i)) (h : i < length ts) where
  both_fed : AllFed (entry_at ts i ∷ entries_at ts (i + 1 + behind i (peek ts i)))
  both_fed = subst AllFed (entries-step ts i h) f

  pub fed_next : (j : ℕ) → j ≡ i + 1 + line_length (drop i ts) → i + 1 + behind i (peek ts i) ≡ j
  fed_next j e = ap (λ (n : ℕ). i + 1 + n) (both_fed.0 ∙ ap line_length (sym (drop-cons ts i ended h))) ∙ sym e

  -- what the line's first token says
  pub fed_here : (t : Token) → t ≡ peek ts i → behind i t ≡ line_length (drop i ts)
  fed_here t e = ap (behind i) e ∙ both_fed.0 ∙ ap line_length (sym (drop-cons ts i ended h))

  pub fed_on : AllFed (entries_at ts (i + 1 + behind i (peek ts i)))
  fed_on = both_fed.1

-- the search for a line feed from the index a on has come to the index i
pub record Seeking (count : ℕ) (work : List ℕ) (a i : ℕ) : Type 0 where
  pub left : i + line_length (drop i (rows count work)) ≡ a + line_length (drop a (rows count work))
  pub within : i ≤ count

module _ (count : ℕ) (work : List ℕ) (a i : ℕ) (s : Seeking count work a i) (room : 4 * count ≤ length work) where
  here_by : (b : Bool) → i < count → eqb (peek (rows count work) i).kind 13 ≡ b → line_length (drop i (rows count work)) ≡ elim b [ true ↦ 0 | false ↦ suc (line_length (drop (suc i) (rows count work))) ]
  unfolding line_length
  here_by b h e =
      ap line_length (drop-cons (rows count work) i ended (omega (arith, length-rows count work room)))
      ∙ ap (λ (b : Bool). elim b [ true ↦ 0 | false ↦ suc (line_length (drop (suc i) (rows count work))) ]) e

  module _ (t : Token) (h : i < count) (e : t ≡ peek (rows count work) i) (b : Bool) (test : b ≡ eqb t.kind 13) where
    tested : eqb (peek (rows count work) i).kind 13 ≡ b
    tested = ap (λ (t : Token). eqb t.kind 13) (sym e) ∙ sym test

    pub seeking_on : b ≡ false → Seeking count work a (i + 1)
    seeking_on n =
        let z : i + 1 ≡ suc i = omega arith in
        let one : line_length (drop i (rows count work)) ≡ suc (line_length (drop (suc i) (rows count work))) = here_by false h (tested ∙ n) in
        record { left = ap (λ (k : ℕ). k + line_length (drop k (rows count work))) z ∙ omega (arith, one) ∙ s.left; within = omega arith }

    pub seeking_here : b ≡ true → i + 1 ≡ a + 1 + line_length (drop a (rows count work))
    seeking_here y =
        let none : line_length (drop i (rows count work)) ≡ 0 = here_by true h (tested ∙ y) in
        omega (arith, s.left, none)

  pub seeking_end : count ≤ i → i + 1 ≡ a + 1 + line_length (drop a (rows count work))
  unfolding line_length
  seeking_end h =
      let none : line_length (drop i (rows count work)) ≡ 0 = ap line_length (drop_of_length-le (rows count work) {i = i} (omega (arith, length-rows count work room))) in
      omega (arith, s.left, none)

  pub seeking_done : count ≤ i → count + 1 ≡ a + 1 + line_length (drop a (rows count work))
  seeking_done h = omega (arith, seeking_end h, s.within)

-- ---- the search for a kind from the end: there is one up to the index `to` if there is one up to the index i
abbrev pub kind_from : ℕ → ℕ → List ℕ → ℕ → ℕ → Bool
kind_from k count work i to = has_kind k (take (to - i) (drop i (rows count work)))

has_last : (k : ℕ) (l : List Token) (t : Token) (b : Bool) → eqb t.kind k ≡ b → has_kind k (l ++ t ∷ []) ≡ elim b [ true ↦ true | false ↦ has_kind k l ]
unfolding has_kind
has_last k [] t b e = ap (λ (b : Bool). elim b [ true ↦ true | false ↦ false ]) e
has_last k (u ∷ l) t true e =
    by_test_lem (eqb u.kind k) (λ y. ap (λ (b : Bool). elim b [ true ↦ true | false ↦ has_kind k (l ++ t ∷ []) ]) y)
    (λ n. ap (λ (b : Bool). elim b [ true ↦ true | false ↦ has_kind k (l ++ t ∷ []) ]) n ∙ has_last k l t true e)
has_last k (u ∷ l) t false e = ap (λ (b : Bool). elim (eqb u.kind k) [ true ↦ true | false ↦ b ]) (has_last k l t false e)

has_append : (k : ℕ) (l r : List Token) (b : Bool) → has_kind k l ≡ b → has_kind k (l ++ r) ≡ elim b [ true ↦ true | false ↦ has_kind k r ]
unfolding has_kind
has_append k [] r true e = let z : ◌≡◌ {A = ℕ} 0 1 = cc in absurd (omega arith)
has_append k [] r false e = refl
has_append k (u ∷ l) r b e =
    by_test_lem (eqb u.kind k)
    (λ y.
    let t : b ≡ true = sym e ∙ ap (λ (b : Bool). elim b [ true ↦ true | false ↦ has_kind k l ]) y in
    ap (λ (b : Bool). elim b [ true ↦ true | false ↦ has_kind k (l ++ r) ]) y ∙ sym (ap (λ (b : Bool). elim b [ true ↦ true | false ↦ has_kind k r ]) t))
    (λ n. ap (λ (b : Bool). elim b [ true ↦ true | false ↦ has_kind k (l ++ r) ]) n ∙ has_append k l r b (sym (ap (λ (b : Bool). elim b [ true ↦ true | false ↦ has_kind k l ]) n) ∙ e))

-- the tokens in two parts
module _ (k count : ℕ) (work : List ℕ) (a n to : ℕ) (h : n < to - a) where
  abbrev m : ℕ
  m = a + n

  parts : (b : Bool) → kind_from k count work a m ≡ b → kind_from k count work a to ≡ elim b [ true ↦ true | false ↦ kind_from k count work m to ]
  parts b e =
      let ts : List Token = rows count work in
      let i : to - a ≡ (m - a) + (to - m) = omega arith in
      let j : a + (m - a) ≡ m = omega arith in
      ap (λ (n : ℕ). has_kind k (take n (drop a ts))) i
      ∙ ap (has_kind k) (take-add (m - a) (to - m) (drop a ts) ∙ ap (λ (l : List Token). take (m - a) (drop a ts) ++ take (to - m) l) (drop-drop (m - a) a ts ∙ ap (λ (n : ℕ). drop n ts) j))
      ∙ has_append k (take (m - a) (drop a ts)) (take (to - m) (drop m ts)) b e

  pub kind-first : (r : Bool) → r ≡ kind_from k count work a (a + n) → r ≡ true → true ≡ kind_from k count work a to
  kind-first r e t = sym (parts true (sym e ∙ t))

  pub kind-rest : (r : Bool) → r ≡ kind_from k count work a (a + n) → r ≡ false → (s : Bool) → s ≡ kind_from k count work (a + n) to → s ≡ kind_from k count work a to
  kind-rest r e f s g = g ∙ sym (parts false (sym e ∙ f))

pub kind-none : (k count : ℕ) (work : List ℕ) (a to : ℕ) → to ≤ a → false ≡ kind_from k count work a to
unfolding has_kind
kind-none k count work a to h = let e : to - a ≡ 0 = omega arith in sym (ap (λ (n : ℕ). has_kind k (take n (drop a (rows count work)))) e)

-- behind the last token there is nothing
pub kind_cut : (k count : ℕ) (work : List ℕ) (a to : ℕ) → 4 * count ≤ length work → count < to → (r : Bool) → r ≡ kind_from k count work a count → r ≡ kind_from k count work a to
kind_cut k count work a to room h r e =
    let l : List Token = drop a (rows count work) in
    let few : length l ≤ count - a = omega (arith, length-drop a (rows count work), length-rows count work room) in
    e ∙ ap (has_kind k) (take_all (count - a) l few ∙ sym (take_all (to - a) l (omega arith)))

pub kind-least : (k count : ℕ) (work : List ℕ) (a to : ℕ) → 4 * count ≤ length work → (r : Bool) (n : ℕ) → n ≡ min to count → r ≡ kind_from k count work a n → r ≡ kind_from k count work a to
kind-least k count work a to room r n e h = go (dec_lt count to)
  where
    go : Dec (count < to) → r ≡ kind_from k count work a to
    go (yes l) = kind_cut k count work a to room l r (h ∙ ap (kind_from k count work a) (omega (arith, e)))
    go (no l) = h ∙ ap (kind_from k count work a) (omega (arith, e))

module _ (k count : ℕ) (work : List ℕ) (a to i : ℕ) (inv : kind_from k count work a i ≡ kind_from k count work a to) where
  pub kind-end : i ≤ a → false ≡ kind_from k count work a to
  unfolding has_kind
  kind-end h = let e : i - a ≡ 0 = omega arith in sym (ap (λ (n : ℕ). has_kind k (take n (drop a (rows count work)))) e) ∙ inv

  module _ (room : 4 * count ≤ length work) (low : a < i) (within : i ≤ count) (t : Token) (at : t ≡ peek (rows count work) (i - 1)) where
    kind_by : (b : Bool) → eqb t.kind k ≡ b → kind_from k count work a i ≡ elim b [ true ↦ true | false ↦ kind_from k count work a (i - 1) ]
    kind_by b e =
        let ts : List Token = rows count work in
        let more : i - a ≡ suc ((i - 1) - a) = omega arith in
        let back : a + ((i - 1) - a) ≡ i - 1 = omega arith in
        let last : get_or (drop a ts) ((i - 1) - a) ended ≡ t = get_or-drop a ts ((i - 1) - a) ended ∙ ap (λ (n : ℕ). peek ts n) back ∙ sym at in
        ap (λ (n : ℕ). has_kind k (take n (drop a ts))) more
        ∙ ap (has_kind k) (take-suc (drop a ts) ((i - 1) - a) ended (omega (arith, length-drop a ts, length-rows count work room)))
        ∙ ap (λ (u : Token). has_kind k (take ((i - 1) - a) (drop a ts) ++ u ∷ [])) last
        ∙ has_last k (take ((i - 1) - a) (drop a ts)) t b e

    pub kind_here : t.kind ≡ k → true ≡ kind_from k count work a to
    kind_here e = sym (kind_by true (eq-eqb t.kind k e)) ∙ inv

    pub kind-on : (t.kind ≡ k → ⊥) → kind_from k count work a (i - 1) ≡ kind_from k count work a to
    kind-on e = sym (kind_by false (ne_eqb t.kind k e)) ∙ inv

pub ruleset kinds = (kind-least, kind-none, kind-first)
