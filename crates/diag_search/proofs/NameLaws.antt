-- Laws of the diagnostic of a line that declares a name, given the first declarations.
use mathlib.Core.Path.{◌≡◌}
use mathlib.Core.Bool.{false, cond}
use mathlib.Core.List.{List, [], ◌∷◌}
use Prim.Native.Nat.{ℕ, ◌-◌, ◌≤◌, ◌<◌}
use native.Mathlib.Omega.{arith}
use borrow.Author.Tests.{eq-eqb, ne_eqb}
use lib.Dec.{eqb, ltb}
use lib.ListN.{length, get_or}
use Rattle.diag.specs.declared.Diagnostic.{Diagnostic}
use Rattle.diag.specs.Log.{error, with_related}
use Rattle.tokens.specs.declared.Token.{Token}
use Rattle.parser.specs.Row.{peek}
use Rattle.assembler.specs.Rows.{place_of}
use Rattle.assembler.specs.Entries.{Entry, entry_at}
use Rattle.assembler.specs.Declarations.{declares, name_of, tapes_error}
use Rattle.assembler.proofs.Passes.{at_most_one}
use Rattle.assembler.proofs.DeclarationLaws.{declares_low, declares_high, declares-name}
use Rattle.diag_search.specs.Repeats.{name_error}

module _ (ts : List Token) (i : ℕ) (t : Token) (at : t ≡ peek ts i) (first : List ℕ) where
  none_wrong : declares t ≡ false → [] ≡ name_error ts first (entry_at ts i)
  unfolding name_error
  none_wrong e = rw (← at, e)

  pub name_low : t.kind < 16 → [] ≡ name_error ts first (entry_at ts i)
  name_low h = none_wrong (declares_low t h)

  module _ (k : ℕ) (enough : 16 ≤ t.kind) (name : k ≡ t.kind - 16) where
    pub name_high : 11 ≤ k → [] ≡ name_error ts first (entry_at ts i)
    name_high h = none_wrong (declares_high t k enough name h)

    module _ (low : k < 11) (f : ℕ) (there : f ≡ get_or first k 0) where
      pub name_again : (f ≡ i → ⊥) → with_related (error 11 (place_of t)) (place_of (peek ts f)) ∷ [] ≡ name_error ts first (entry_at ts i)
      unfolding name_error
      name_again h = rw (← at, declares-name t k enough name low, ← name, ← there, ne_eqb f i h)

      pub name-first : f ≡ i → tapes_error (entry_at ts i) ≡ name_error ts first (entry_at ts i)
      unfolding name_error
      name-first h = rw (← at, declares-name t k enough name low, ← name, ← there, eq-eqb f i h)

pub one_name : (ts : List Token) (first : List ℕ) (e : Entry) → length (name_error ts first e) ≤ 1
unfolding name_error tapes_error
one_name ts first e =
    let v : Token = peek e.rest 1 in
    let f : ℕ = get_or first (name_of e.first) 0 in
    let high : List Diagnostic = error 9 (place_of v) ∷ [] in
    let again : List Diagnostic = with_related (error 11 (place_of e.first)) (place_of (peek ts f)) ∷ [] in
    at_most_one (declares e.first) (cond (eqb f e.at) (tapes_error e) again) []
    (at_most_one (eqb f e.at) (tapes_error e) again
    (at_most_one (eqb e.first.kind 20) (cond (ltb 255 v.value) high []) [] (at_most_one (ltb 255 v.value) high [] (omega arith) (omega arith)) (omega arith)) (omega arith))
    (omega arith)
