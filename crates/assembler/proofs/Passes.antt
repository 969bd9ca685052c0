-- Laws of a pass over the lines that appends diagnostics to the log.
use mathlib.Core.Path.{◌≡◌, refl, sym, ap, ◌∙◌}
use mathlib.Core.Bool.{Bool, true, false, cond}
use mathlib.Core.List.{List, [], ◌∷◌, ◌++◌, append-nil, append_assoc}
use Prim.Native.Nat.{ℕ, ◌+◌, ◌≤◌, ◌<◌, ◌^◌}
use native.Mathlib.Omega.{arith}
use lib.ListN.{length, length-append}
use Rattle.diag.specs.declared.Diagnostic.{Diagnostic}
use Rattle.diag.specs.declared.log.Log.{Log}
use Rattle.diag.specs.Appends.{Appends}
use Rattle.diag.proofs.Appending.{appends_none, appends_then, appends_count, appends_as}
use Rattle.tokens.specs.declared.Token.{Token}
use Rattle.parser.specs.Row.{peek}
use Rattle.assembler.specs.Entries.{Entry, entry_at, behind, entries}
use Rattle.assembler.specs.Feeds.{AllFed, Fed}
use Rattle.assembler.proofs.Rows.{entries_at, entries-step, entries-end, fed_on}

-- either of two lists of at most one diagnostic has at most one
pub at_most_one : (b : Bool) (x y : List Diagnostic) → length x ≤ 1 → length y ≤ 1 → length (cond b x y) ≤ 1
at_most_one true x y h g = h
at_most_one false x y h g = g

-- a pass has come to the line at the index i: what it has appended, and what is left to append,
-- is all; at most one for each token passed
pub record Passing (ts : List Token) (left : List Entry → List Diagnostic) (all : List Diagnostic) (l₀ l : Log) (i : ℕ) : Type 0 where
  pub done : List Diagnostic
  pub given : Appends l₀ l done
  pub whole : done ++ left (entries_at ts i) ≡ all
  pub few : length done ≤ i
  pub fed : AllFed (entries_at ts i)

pub passing_start : (ts : List Token) (left : List Entry → List Diagnostic) (l : Log) → Fed ts → Passing ts left (left (entries ts)) l l 0
unfolding entries
passing_start ts left l fed = record { done = []; given = appends_none l; whole = refl; few = omega arith; fed = fed }

module _ (ts : List Token) (all : List Diagnostic) (l₀ l : Log) (i : ℕ) where
  pub passing_step : (f g : List Entry → List Diagnostic) (ds : List Diagnostic) (l' : Log) → Passing ts f all l₀ l i → i < length ts
      → ((es : List Entry) → f (entry_at ts i ∷ es) ≡ ds ++ g es) → length ds ≤ 1 → Appends l l' ds
      → Passing ts g all l₀ l' (i + 1 + behind i (peek ts i))
  passing_step f g ds l' p h step one e =
      let rest : List Entry = entries_at ts (i + 1 + behind i (peek ts i)) in
      record {
        done = p.done ++ ds;
        given = appends_then l₀ l l' p.done ds p.given e;
        whole =
            append_assoc p.done ds (g rest) ∙ ap (λ (x : List Diagnostic). p.done ++ x) (sym (step rest))
            ∙ ap (λ (es : List Entry). p.done ++ f es) (sym (entries-step ts i h)) ∙ p.whole;
        few = omega (arith, p.few, length-append p.done ds);
        fed = fed_on ts i p.fed h;
      }

  pub passing_end : (f : List Entry → List Diagnostic) → Passing ts f all l₀ l i → length ts ≤ i → f [] ≡ [] → Appends l₀ l all
  passing_end f p h none =
      appends_as l₀ l p.done all p.given
      (sym (append-nil p.done) ∙ ap (λ (x : List Diagnostic). p.done ++ x) (sym (ap f (entries-end ts i h) ∙ none)) ∙ p.whole)

  pub passing_room : (f : List Entry → List Diagnostic) (n : ℕ) → Passing ts f all l₀ l i → i < n → l₀.count + n < 2 ^ 64 → l.count + 1 < 2 ^ 64
  passing_room f n p h g = omega (arith, p.few, appends_count l₀ l p.done p.given)

-- a pass that has no diagnostic
pub none-given : (l : Log) (ds : List Diagnostic) (k : ℕ) → k ≡ length ds → k ≡ 0 → Appends l l ds
none-given l [] k e z = appends_none l
none-given l (d ∷ ds) k e z = absurd (omega arith)
