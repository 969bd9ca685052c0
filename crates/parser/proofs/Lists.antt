-- Laws of the lists of entries: an element reads at least one token of the row, so a list's definition goes on at the next entry.
use Rattle.std.specs.Prelude.{Err, Result, IsErrAnd}
use Rattle.std.proofs.lemmas.Result.{err_from_is_err_and}
use mathlib.Core.Path.{◌≡◌, refl, sym, ap, subst, ◌∙◌}
use Prim.Native.Nat.{ℕ, zero, suc, ◌+◌, ◌-◌, ◌≤◌, ◌<◌}
use native.Mathlib.Omega.{arith}
use mathlib.Core.Bool.{Bool, true, false, cond}
use mathlib.Core.List.{List}
use lib.ListN.{length}
use lib.Dec.{eqb}
use borrow.Author.Tests.{eq-eqb, ne_eqb}
use Rattle.parser.specs.Row.{tokens_in, ended, peek}
use Rattle.parser.specs.Views.{is_kind, is_state, is_symbol, is_write, is_direction, is_text}
use Rattle.parser.specs.Lines.{Parsed, Done, Parser, then, unexpected, one, direction, separator, entries_from, entries, read_entry}
pub use Rattle.parser.specs.Calls.{Within, Steps}
use Rattle.tokens.specs.declared.Token.{Token}
use Rattle.parser.specs.declared.Failure.{Failure}
use Rattle.parser.proofs.Laws.{inside}
use Rattle.parser.proofs.Single.{kind-ended}

-- what was read, and where it ended
pub done_same : {A : Type 0} {i j : ℕ} {a b : A} → Done i a ≡ Done j b → (i ≡ j) × (a ≡ b)
done_same {A} {i} {j} {a} {b} e = (ap (λ (r : Parsed A). end_of r) e, ap (λ (r : Parsed A). made_of r) e)
  where
    end_of : Parsed A → ℕ
    end_of (Done k c) = k
    end_of (Err bad) = i

    made_of : Parsed A → A
    made_of (Done k c) = c
    made_of (Err bad) = a

-- what a test makes of two answers
pub on_test : {A : Type 0} (P : A → Type 0) (b : Bool) {x y : A} → (b ≡ true → P x) → (b ≡ false → P y) → P (cond b x y)
on_test P true f g = f refl
on_test P false f g = g refl

pub one_steps : (f : Token → Bool) → f ended ≡ false → Steps (one f)
unfolding one unexpected
one_steps f e = record { within = λ ts i. on_test (Within ts i) (f (peek ts i)) (λ y. let h = inside f ts i e y in (omega arith, omega arith)) (λ n. tt) }

pub direction_steps : Steps direction
unfolding direction unexpected is_direction
direction_steps = record {
  within = λ ts i.
      on_test (Within ts i) (is_direction (peek ts i)) (λ y. let h = inside is_direction ts i refl y in (omega arith, omega arith))
      (λ n. on_test (Within ts i) (is_text (peek ts i)) (λ y. tt) (λ n. tt));
}

pub separator_steps : (close : ℕ) → close < 13 → Steps (separator close)
unfolding separator unexpected is_kind
separator_steps close l = record {
  within = λ ts i.
      on_test (Within ts i) (eqb (peek ts i).kind 8) (λ y. let h = inside (is_kind 8) ts i refl y in (omega arith, omega arith))
      (λ n. on_test (Within ts i) (eqb (peek ts i).kind close) (λ y. let h = inside (is_kind close) ts i (kind-ended close l) y in (omega arith, omega arith)) (λ n. tt));
}

pub then_steps : (ts : List Token) (i : ℕ) (r : Parsed ℕ) (f : ℕ → ℕ → Parsed ℕ) → Within ts i r → ((j n : ℕ) → i < j → j ≤ length ts → Within ts i (f j n)) → Within ts i (then r f)
unfolding then
then_steps ts i (Done j n) f w k = k j n w.0 w.1
then_steps ts i (Err bad) f w k = tt

pub further : (ts : List Token) (i j : ℕ) (r : Parsed ℕ) → i ≤ j → Within ts j r → Within ts i r
further ts i j (Done k n) l w = (omega arith, w.1)
further ts i j (Err bad) l w = tt

-- ---- the entries of a list, one at a time
module _ (p : Parser) (steps : Steps p) (close : ℕ) (low : close < 13) (ts : List Token) where
  -- the next entry, where `go` gives the rest
  abbrev pub turn : (ℕ → ℕ → Parsed ℕ) → ℕ → ℕ → Parsed ℕ
  turn go i n = then (p ts i) λ j _. then (separator close ts j) λ next more. elim (eqb more 0) [ true ↦ Done next (n + 1) | false ↦ go next (n + 1) ]

  turn-same : (go go' : ℕ → ℕ → Parsed ℕ) (i n : ℕ) → ((next : ℕ) → i + 2 ≤ next → next ≤ length ts → go next (n + 1) ≡ go' next (n + 1)) → turn go i n ≡ turn go' i n
  unfolding then
  turn-same go go' i n same = on-first (p ts i) (steps.within ts i)
    where
      on_second : (j : ℕ) (r : Parsed ℕ) → i < j → Within ts j r
          → then r (λ next more. elim (eqb more 0) [ true ↦ Done next (n + 1) | false ↦ go next (n + 1) ])
          ≡ then r (λ next more. elim (eqb more 0) [ true ↦ Done next (n + 1) | false ↦ go' next (n + 1) ])
      on_second j (Err bad) l w = refl
      on_second j (Done next more) l w =
          elim (eqb more 0) as (λ (b : Bool).
          ◌≡◌ {A = Parsed ℕ} (elim b [ true ↦ Done next (n + 1) | false ↦ go next (n + 1) ]) (elim b [ true ↦ Done next (n + 1) | false ↦ go' next (n + 1) ]))
          [ true ↦ refl | false ↦ same next (omega arith) w.1 ]

      on-first : (r : Parsed ℕ) → Within ts i r
          → then r (λ j _. then (separator close ts j) λ next more. elim (eqb more 0) [ true ↦ Done next (n + 1) | false ↦ go next (n + 1) ])
          ≡ then r (λ j _. then (separator close ts j) λ next more. elim (eqb more 0) [ true ↦ Done next (n + 1) | false ↦ go' next (n + 1) ])
      on-first (Err bad) w = refl
      on-first (Done j m) w = on_second j (separator close ts j) w.0 ((separator_steps close low).within ts j)

  -- the bound does not matter where it is enough
  enough : (k m i n : ℕ) → length ts < k + i → length ts < m + i → 1 ≤ k → 1 ≤ m → entries_from p close ts k i n ≡ entries_from p close ts m i n
  unfolding entries_from
  enough zero m i n a b c d = absurd (omega arith)
  enough (suc k) zero i n a b c d = absurd (omega arith)
  enough (suc k) (suc m) i n a b c d =
      turn-same (λ i n. entries_from p close ts k i n) (λ i n. entries_from p close ts m i n) i n
      (λ next l h. enough k m next (n + 1) (omega arith) (omega arith) (omega arith) (omega arith))

  pub entries-turn : (i n : ℕ) → entries p close ts i n ≡ turn (λ i n. entries p close ts i n) i n
  unfolding entries entries_from
  entries-turn i n =
      turn-same (λ i n. entries_from p close ts (length ts) i n) (λ i n. entries_from p close ts (suc (length ts)) i n) i n
      (λ next l h. enough (length ts) (suc (length ts)) next (n + 1) (omega arith) (omega arith) (omega arith) (omega arith))

  from_within : (k i n : ℕ) → Within ts i (entries_from p close ts k i n)
  unfolding entries_from unexpected then
  from_within zero i n = tt
  from_within (suc k) i n =
      then_steps ts i (p ts i) (λ j _. then (separator close ts j) λ next more. elim (eqb more 0) [ true ↦ Done next (n + 1) | false ↦ entries_from p close ts k next (n + 1) ])
      (steps.within ts i)
      (λ j _ l _.
      further ts i j (then (separator close ts j) λ next more. elim (eqb more 0) [ true ↦ Done next (n + 1) | false ↦ entries_from p close ts k next (n + 1) ]) (omega arith)
      (then_steps ts j (separator close ts j) (λ next more. elim (eqb more 0) [ true ↦ Done next (n + 1) | false ↦ entries_from p close ts k next (n + 1) ])
      ((separator_steps close low).within ts j)
      (λ next more a b.
      elim (eqb more 0) as (λ (b : Bool). Within ts j (elim b [ true ↦ Done next (n + 1) | false ↦ entries_from p close ts k next (n + 1) ]))
      [ true ↦ (a, b) | false ↦ further ts j next (entries_from p close ts k next (n + 1)) (omega arith) (from_within k next (n + 1)) ])))

  pub entries-within : (i n : ℕ) → Within ts i (entries p close ts i n)
  unfolding entries
  entries-within i n = from_within (suc (length ts)) i n

-- ---- the loop over the entries: those from the index i on, where n stand before, give what the whole gives
module _ (p : Parser) (close : ℕ) (w : List ℕ) (i n : ℕ) (v : Parsed ℕ) (inv : entries p close (tokens_in w) i n ≡ v) (steps : Steps p) (low : close < 13) where
  module _ (r : Parsed ℕ) (e : r ≡ p (tokens_in w) i) where
    entries-on : turn p steps close low (tokens_in w) (λ i n. entries p close (tokens_in w) i n) i n ≡ v
    entries-on = sym (entries-turn p steps close low (tokens_in w) i n) ∙ inv

    pub entry_failed : (bad : Failure) → r ≡ Err bad → Err bad ≡ v
    unfolding then
    entry_failed bad d = let q : p (tokens_in w) i ≡ Err bad = sym e ∙ d in rw q at entries-on

    module _ (j m : ℕ) (d : r ≡ Done j m) (s : Parsed ℕ) (f : s ≡ separator close (tokens_in w) j) where
      entry_on : then (separator close (tokens_in w) j) (λ next more. elim (eqb more 0) [ true ↦ Done next (n + 1) | false ↦ entries p close (tokens_in w) next (n + 1) ]) ≡ v
      unfolding then
      entry_on = let q : p (tokens_in w) i ≡ Done j m = sym e ∙ d in rw q at entries-on

      pub list-failed : (bad : Failure) → s ≡ Err bad → Err bad ≡ v
      unfolding then
      list-failed bad g = let q : separator close (tokens_in w) j ≡ Err bad = sym f ∙ g in rw q at entry_on

      module _ (next more : ℕ) (g : s ≡ Done next more) where
        pub list_last : more ≡ 0 → Done next (n + 1) ≡ v
        unfolding then
        list_last z =
            let q : separator close (tokens_in w) j ≡ Done next more = sym f ∙ g in
            let q₁ : eqb more 0 ≡ true = eq-eqb more 0 z in
            sym (ap (λ (b : Bool). elim b [ true ↦ Done next (n + 1) | false ↦ entries p close (tokens_in w) next (n + 1) ]) q₁) ∙ (rw q at entry_on)

        pub list_again : (more ≡ 0 → ⊥) → entries p close (tokens_in w) next (n + 1) ≡ v
        unfolding then
        list_again z =
            let q : separator close (tokens_in w) j ≡ Done next more = sym f ∙ g in
            let q₁ : eqb more 0 ≡ false = ne_eqb more 0 z in
            sym (ap (λ (b : Bool). elim b [ true ↦ Done next (n + 1) | false ↦ entries p close (tokens_in w) next (n + 1) ]) q₁) ∙ (rw q at entry_on)

        list-within : (i + 2 ≤ next) × (next ≤ length (tokens_in w))
        list-within =
            let a : Within (tokens_in w) i (Done j m) = subst (Within (tokens_in w) i) (sym e ∙ d) (steps.within (tokens_in w) i) in
            let b : Within (tokens_in w) j (Done next more) = subst (Within (tokens_in w) j) (sym f ∙ g) ((separator_steps close low).within (tokens_in w) j) in
            (omega arith, omega arith)

        pub list_falls : length (tokens_in w) - next < length (tokens_in w) - i
        list_falls = omega (arith, list-within)

        pub list_few : n ≤ i → n + 1 ≤ next
        list_few h = omega (arith, list-within)

pub state_steps : Steps (one is_state)
unfolding is_state
state_steps = one_steps is_state refl

pub symbol_steps : Steps (one is_symbol)
unfolding is_symbol
symbol_steps = one_steps is_symbol refl

pub write_steps : Steps (one is_write)
unfolding is_write
write_steps = one_steps is_write refl

pub read_steps : Steps read_entry
unfolding read_entry
read_steps = record {
  within = λ ts i.
      on_test (Within ts i) (eqb (peek ts i).kind 6)
      (λ y.
      further ts i (i + 1) (then (entries (one is_symbol) 7 ts (i + 1) 0) λ j _. Done j 1) (omega arith)
      (then_steps ts (i + 1) (entries (one is_symbol) 7 ts (i + 1) 0) (λ j _. Done j 1) (entries-within (one is_symbol) symbol_steps 7 (omega arith) ts (i + 1) 0) (λ j _ a b. (a, b))))
      (λ n. symbol_steps.within ts i);
}

-- ---- where a `?` hands a failure on
pub handed : {B : Type 0} (out v : Result B Failure) (bad : Failure) → IsErrAnd out (λ y. y ≡ bad) → Err bad ≡ v → out ≡ v
handed out v bad h e = let p = err_from_is_err_and out h in p.1 ∙ ap Err p.2 ∙ e
