-- Laws of the log's words: clearing, and records as words.
use mathlib.Core.Path.{◌≡◌, ap, ◌∙◌}
use mathlib.Core.List.{List, [], ◌++◌, append-nil}
use Prim.Native.Nat.{ℕ, ◌+◌, ◌-◌, ◌*◌, ◌/◌, ◌≤◌, ◌<◌}
use native.Mathlib.Omega.{arith}
use borrow.Author.Tests.{le-leb, lt-leb}
use lib.ListN.{length, take, drop, replicate, length-take, length-drop, drop_of_length-le}
use lib.Seq.{sets}
use Rattle.diag.specs.declared.Diagnostic.{Diagnostic}
use Rattle.diag.specs.Log.{words, logged, appended}

-- ---- a row cleared from an index on
pub cleared_from : (o : List ℕ) (at : ℕ) → at ≤ length o → (p : List ℕ) → p ≡ replicate (length (take (length o - at) (drop at o))) 0
    → take at o ++ (p ++ drop (length o - at) (drop at o)) ≡ take at o ++ replicate (length o - at) 0
cleared_from o at h p e =
    let n : length (take (length o - at) (drop at o)) ≡ length o - at = omega (arith, length-take (length o - at) (drop at o), length-drop at o) in
    let none : drop (length o - at) (drop at o) ≡ [] = drop_of_length-le (drop at o) {i = length o - at} (omega (arith, length-drop at o)) in
    ap (λ (l : List ℕ). take at o ++ (l ++ drop (length o - at) (drop at o))) (e ∙ ap (λ (n : ℕ). replicate n 0) n)
    ∙ ap (λ (l : List ℕ). take at o ++ (replicate (length o - at) 0 ++ l)) none
    ∙ ap (λ (l : List ℕ). take at o ++ l) (append-nil (replicate (length o - at) 0))

-- ---- appending a diagnostic
module _ (w w' v : List ℕ) (n : ℕ) (d : Diagnostic) (same : w' ≡ v) where
  -- a diagnostic is stored where a whole record is left
  pub append_stored : n < length w / 5 → v ≡ sets w (5 * n) (words d) → logged w' (n + 1) ≡ appended (logged w n) d
  unfolding appended
  append_stored h e = rw (le-leb (5 * n + 5) (length w) (omega arith)) (ap (λ (w : List ℕ). logged w (n + 1)) (same ∙ e))

-- a diagnostic is only counted where no whole record is left
pub append_full : (w w' : List ℕ) (n : ℕ) (d : Diagnostic) → w' ≡ w → length w / 5 ≤ n → logged w' (n + 1) ≡ appended (logged w n) d
unfolding appended
append_full w w' n d e h = rw (lt-leb (5 * n + 5) (length w) (omega arith)) (ap (λ (w : List ℕ). logged w (n + 1)) e)
