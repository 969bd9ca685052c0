-- Samples of the definitions, each by computation.
use mathlib.Core.Path.{◌≡◌, refl}
use mathlib.Core.List.{[], ◌∷◌}
use Prim.Native.Nat.{ℕ}
use lib.ListN.{replicate}
use Rattle.diag.specs.declared.Span.{Span}
use Rattle.diag.specs.declared.Diagnostic.{Diagnostic}
use Rattle.diag.specs.Sort.{insert_all}
use Rattle.diag.specs.Log.{error, with_related, sort, log_after, logged, append_all}

abbrev at : ℕ → ℕ → Span
at a b = record { start = a; end = b }

-- paper 01, P10: E011 at 9-20, related to 0-8
abbrev p10 : Diagnostic
p10 = with_related (error 11 (at 9 20)) (at 0 8)

-- paper 01, P2: E001 at 6-7
abbrev p2 : Diagnostic
p2 = error 1 (at 6 7)

-- equal starts keep their order
stable : sort (error 1 (at 5 9) ∷ error 2 (at 3 4) ∷ error 3 (at 5 6) ∷ error 4 (at 3 3) ∷ []) ≡ error 2 (at 3 4) ∷ error 4 (at 3 3) ∷ error 1 (at 5 9) ∷ error 3 (at 5 6) ∷ []
unfolding insert_all
stable = refl

-- a log of 12 words has two records, and two words behind them that stay zero
two : log_after 12 (p2 ∷ p10 ∷ []) ≡ 1 ∷ 6 ∷ 7 ∷ 4294967295 ∷ 4294967295 ∷ 11 ∷ 9 ∷ 20 ∷ 0 ∷ 8 ∷ 0 ∷ 0 ∷ []
unfolding log_after
two = refl

-- a log of 9 words has one: no record for the second, so none for the first
short : log_after 9 (p2 ∷ p10 ∷ []) ≡ replicate 9 0
unfolding log_after
short = refl

-- while it is written it holds the first, and counts both
written : append_all (logged (replicate 9 0) 0) (p10 ∷ p2 ∷ []) ≡ logged (11 ∷ 9 ∷ 20 ∷ 0 ∷ 8 ∷ 0 ∷ 0 ∷ 0 ∷ 0 ∷ []) 2
unfolding append_all
written = refl
