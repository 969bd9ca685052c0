-- `chars::char_at` meets its contract: an ASCII byte is its own front, and at the end there
-- is none; `long_at` answers for any other.
use Rattle.std.proofs.Common.{arith, ◌∙◌, sym}
use Rattle.chars.proofs.Front.{char_at-end, char_at_ascii}
use Rattle.chars.proofs.Laws.{none_means}
use Rattle.chars.proofs.char_at.Goals as goal

pub returns-in_err-a-clause-found : goal.returns-in_err-a-clause-found
returns-in_err-a-clause-found c = c.from_residual.ensures ∙ char_at-end _ _ c.in_err-a.ensures.lookup.3

pub returns-then-a-lt128-clause-found : goal.returns-then-a-lt128-clause-found
returns-then-a-lt128-clause-found c = let h = c.in_ok-a.ensures.lookup.3 in char_at_ascii _ _ _ h.0 (c.from.ensures ∙ h.1 0) (omega (arith, c.from.ensures))

pub returns-in_err-a-clause-nothing : goal.returns-in_err-a-clause-nothing
returns-in_err-a-clause-nothing c = none_means _ _ _ (returns-in_err-a-clause-found c)

pub returns-in_err-c-clause-nothing : goal.returns-in_err-c-clause-nothing
returns-in_err-c-clause-nothing c = none_means _ _ _ (c.from_residual-in_err-c.ensures ∙ sym c.in_err-c.was ∙ c.long_at.ensures)
