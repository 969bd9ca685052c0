-- The loop's invariant: where all passed so far, each byte passed.
use Rattle.std.proofs.Common.{◌≡◌, ℕ, ◌<◌, true, get_or}
use Rattle.lexer.proofs.block.all_eight.Given as goal

abbrev pub invariant-loop-b : goal.invariant-loop-b
invariant-loop-b g l = l.all ≡ true → (j : ℕ) → j < l.b-index → goal.F-post g l.f (get_or l.block j 0) true
