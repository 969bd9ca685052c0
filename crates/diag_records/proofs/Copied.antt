-- What copied records are: words from a log of records.
use mathlib.Core.Path.{◌≡◌, ap, ◌∙◌}
use mathlib.Core.List.{List, ◌++◌}
use native.Mathlib.Nat.{sub-zero}
use Prim.Native.Nat.{ℕ, ◌-◌, ◌*◌, ◌≤◌}
use lib.ListN.{length, take, drop}
use Rattle.diag.specs.declared.Diagnostic.{Diagnostic}
use Rattle.diag.specs.Log.{flat, whole, behind}
use Rattle.diag.proofs.Records.{words-from}

pub spilled : (n : ℕ) (log : List Diagnostic) (w w' : List ℕ) → (n ≤ length log) × (5 * n ≤ length w) → length w' ≡ length w → whole w' ≡ take (n - 0) log ++ drop n (whole w) → behind w' ≡ behind w
    → w' ≡ flat (take n log) ++ drop (5 * n) w
spilled n log w w' h len e r = words-from n w w' (take n log) h.1 len (e ∙ ap (λ (k : ℕ). take k log ++ drop n (whole w)) (sub-zero n)) r
