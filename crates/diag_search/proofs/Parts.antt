-- Laws of the words cut into the tokens, the row of first equal words and the marks, for the names of a text.
use mathlib.Core.Path.{◌≡◌, sym, ap, subst, ◌∙◌}
use mathlib.Core.Bool.{Bool}
use mathlib.Core.List.{List, [], ◌++◌}
use Prim.Native.Nat.{ℕ}
use lib.ListN.{length, take, drop}
use Rattle.tokens.specs.declared.Token.{Token}
use Rattle.tokens.specs.Row.{peek}
use Rattle.assembler.specs.Rows.{rows}
use Rattle.assembler.specs.Finals.{name_at, names_of, final_error_at, Marks, MarkedIn, Laid}
use Rattle.assembler.specs.declared.finals.Names.{Names}
use Rattle.assembler.specs.Marked.{row_of, Marked}
use Rattle.assembler.proofs.PartLaws.{part-rows, marks-in, marks-out}
use Rattle.diag_search.specs.declared.Step.{Step}
use Rattle.diag_search.specs.Cursor.{taken}

module _ (names : Names) (text : List ℕ) (ts : List Token) (firsts : List ℕ) (e : names.text.now ≡ text) (f : row_of names ≡ ts) (g : names.firsts.now ≡ firsts) (m qs before : List ℕ) where
  marked-out : Marked names m qs before → MarkedIn text ts firsts m qs before
  marked-out p =
      subst (λ (x : List ℕ). MarkedIn text ts x m qs before) g
      (subst (λ (x : List Token). MarkedIn text x names.firsts.now m qs before) f (subst (λ (x : List ℕ). MarkedIn x (row_of names) names.firsts.now m qs before) e p))

  marked-into : MarkedIn text ts firsts m qs before → Marked names m qs before
  marked-into p =
      subst (λ (x : List ℕ). MarkedIn x (row_of names) names.firsts.now m qs before) (sym e)
      (subst (λ (x : List Token). MarkedIn text x names.firsts.now m qs before) (sym f) (subst (λ (x : List ℕ). MarkedIn text ts x m qs before) (sym g) p))

module _ (count a b : ℕ) (w : List ℕ) (laid : Laid count a b w) (front words firsts marks : List ℕ) (f : front ≡ take b w) (m : marks ≡ drop b w) (t : words ≡ take a front) (g : firsts ≡ drop a front)
    (names : Names) (text : List ℕ) (e : names.text.now ≡ text) (r : row_of names ≡ rows count words) (k : names.firsts.now ≡ firsts) (v : List ℕ) (size : length v ≡ length marks) where
  same-row : row_of names ≡ rows count w
  same-row = r ∙ part-rows count a b w laid front words firsts marks f m t g

  out : (qs before : List ℕ) → Marked names v qs before → Marks text (rows count w) a b (front ++ v) qs before
  out qs before p = marks-out count a b w laid front words firsts marks f m t g v size text qs before (marked-out names text (rows count words) firsts e r k v qs before p)

  pub states-marked : (q : ℕ) → Marked names v (names_of (row_of names) q) [] → Marks text (rows count w) a b (front ++ v) (names_of (rows count w) q) []
  states-marked q p = subst (λ (ts : List Token). Marks text (rows count w) a b (front ++ v) (names_of ts q) []) same-row (out (names_of (row_of names) q) [] p)

  pub listed-marked : (d : Bool) (i : ℕ) (s : Step)
      → ((qs before : List ℕ) → Marked names marks qs before
      → (taken s ≡ final_error_at names.text.now (row_of names) d qs before i) × Marked names v qs (before ++ name_at i (peek (row_of names) i)))
      → (qs before : List ℕ) → Marks text (rows count w) a b w qs before
      → (taken s ≡ final_error_at text (rows count w) d qs before i) × Marks text (rows count w) a b (front ++ v) qs (before ++ name_at i (peek (rows count w) i))
  listed-marked d i s h qs before p =
      let x = h qs before (marked-into names text (rows count words) firsts e r k marks qs before (marks-in count a b w laid front words firsts marks f m t g text qs before p)) in (
        x.0 ∙ ap (λ (y : List ℕ). final_error_at y (row_of names) d qs before i) e ∙ ap (λ (ts : List Token). final_error_at text ts d qs before i) same-row,
        subst (λ (ts : List Token). Marks text (rows count w) a b (front ++ v) qs (before ++ name_at i (peek ts i))) same-row (out qs (before ++ name_at i (peek (row_of names) i)) x.1),
      )
