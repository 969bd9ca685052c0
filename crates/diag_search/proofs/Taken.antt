-- Laws of a log of one record: what it was given is what the step that reads it took.
use mathlib.Core.Path.{◌≡◌, ap, ◌∙◌}
use mathlib.Core.List.{List, [], ◌∷◌}
use Prim.Native.Nat.{ℕ, ◌≤◌}
use native.Mathlib.Omega.{arith}
use lib.ListN.{length, replicate}
use Rattle.diag.specs.declared.Diagnostic.{Diagnostic}
use Rattle.diag.specs.declared.log.Log as D
use Rattle.diag.specs.Log.{Log, logged, appended, append_all}
use Rattle.diag.specs.Appends.{Appends}
use Rattle.diag_search.specs.declared.Search.{Search}
use Rattle.diag_search.specs.Cursor.{stepped, taken}

-- a log of one record
log-none : (g : List ℕ) (n : ℕ) → logged g n ≡ logged (replicate 5 0) 0 → (s : Search) → taken (stepped s g n) ≡ []
unfolding taken
log-none g n e s = ap (λ (l : Log). taken (stepped s l.row l.count)) e

log-one : (g : List ℕ) (n : ℕ) (d : Diagnostic) → logged g n ≡ appended (logged (replicate 5 0) 0) d → (s : Search) → taken (stepped s g n) ≡ d ∷ []
unfolding taken appended
log-one g n d e s = ap (λ (l : Log). taken (stepped s l.row l.count)) e

pub taken_is : (s : Search) (g : List ℕ) (n : ℕ) (ds : List Diagnostic) → logged g n ≡ append_all (logged (replicate 5 0) 0) ds → length ds ≤ 1 → taken (stepped s g n) ≡ ds
unfolding append_all
taken_is s g n [] e h = log-none g n e s
taken_is s g n (d ∷ []) e h = log-one g n d e s
taken_is s g n (d ∷ x ∷ ds) e h = absurd (omega arith)

-- what a log on a row of no record was given
pub given_log : (l₀ l : D.Log) (ds : List Diagnostic) (g : List ℕ) (n : ℕ) → logged l₀.row.now l₀.count ≡ logged (replicate 5 0) 0 → Appends l₀ l ds → g ≡ l.row.now → n ≡ l.count
    → logged g n ≡ append_all (logged (replicate 5 0) 0) ds
given_log l₀ l ds g n b a eg en = ap (λ (w : List ℕ). logged w n) eg ∙ ap (logged l.row.now) en ∙ a.written ∙ ap (λ (x : Log). append_all x ds) b
