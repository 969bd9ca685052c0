-- Laws of the pass over failed lines.
use mathlib.Core.Path.{◌≡◌, refl, ap, subst, ◌∙◌}
use mathlib.Core.List.{List, [], ◌∷◌}
use Prim.Native.Nat.{ℕ, ◌+◌, ◌-◌, ◌*◌, ◌≤◌, ◌<◌}
use native.Mathlib.Omega.{arith}
use borrow.Author.Tests.{le-leb, lt-leb}
use lib.Dec.{leb}
use lib.ListN.{length, drop}
use Rattle.diag.specs.declared.Span.{Span}
use Rattle.diag.specs.declared.Diagnostic.{Diagnostic}
use Rattle.diag.specs.declared.log.Log.{Log}
use Rattle.diag.specs.Log.{error}
use Rattle.diag.specs.Appends.{Appends}
use Rattle.diag.proofs.Appending.{appends_as}
use Rattle.tokens.specs.declared.Token.{Token}
use Rattle.parser.specs.Row.{peek}
use Rattle.parser.specs.Lines.{line_length}
use Rattle.assembler.specs.Rows.{rows, place_of}
use Rattle.assembler.specs.Entries.{behind}
use Rattle.assembler.specs.Failures.{line_error, line_errors}
use Rattle.assembler.proofs.Rows.{length-rows, fed_next}
use Rattle.assembler.proofs.Passes.{at_most_one, Passing, passing_step, passing_end}

-- ---- one line
module _ (t : Token) where
  pub line-failed : (p : Span) (d : Diagnostic) → 32 ≤ t.kind → p ≡ place_of t → d ≡ error (t.kind - 32) p → d ∷ [] ≡ line_error t
  unfolding line_error
  line-failed p d h q r = rw (le-leb 32 t.kind h) (ap (λ (d : Diagnostic). d ∷ []) (r ∙ ap (error (t.kind - 32)) q))

  pub line-passed : t.kind < 32 → [] ≡ line_error t
  unfolding line_error
  line-passed h = rw (lt-leb 32 t.kind h)

pub line_error-one : (t : Token) → length (line_error t) ≤ 1
unfolding line_error
line_error-one t = at_most_one (leb 32 t.kind) (error (t.kind - 32) (place_of t) ∷ []) [] (omega arith) (omega arith)

-- ---- all lines
module _ (work : List ℕ) (count : ℕ) (all : List Diagnostic) (l₀ l : Log) (i : ℕ) (p : Passing (rows count work) line_errors all l₀ l i) (room : 4 * count ≤ length work) where
  pub line_on : (t : Token) (l' : Log) (j : ℕ) → i < count → t ≡ peek (rows count work) i → Appends l l' (line_error t)
      → j ≡ i + 1 + line_length (drop i (rows count work)) → Passing (rows count work) line_errors all l₀ l' j
  unfolding line_errors
  line_on t l' j h q e z =
      let ts : List Token = rows count work in
      let here : i < length ts = omega (arith, length-rows count work room) in
      let e' : Appends l l' (line_error (peek ts i)) = appends_as l l' (line_error t) (line_error (peek ts i)) e (ap line_error q) in
      let z' : i + 1 + behind i (peek ts i) ≡ j = fed_next ts i p.fed here j z in
      subst (λ (j : ℕ). Passing ts line_errors all l₀ l' j) z'
      (passing_step ts all l₀ l i line_errors line_errors (line_error (peek ts i)) l' p here (λ es. refl) (line_error-one (peek ts i)) e')

  pub line_end_lem : count ≤ i → Appends l₀ l all
  unfolding line_errors
  line_end_lem h = passing_end (rows count work) all l₀ l i line_errors p (omega (arith, length-rows count work room)) refl
