-- `chars::tail_at` meets its contract: the definition's tests have the values that the arms gave them.
use Rattle.std.proofs.Common.{arith}
use Rattle.chars.proofs.Front.{tail_past, tail_none, tail_bits}
use Rattle.chars.proofs.tail_at.Goals as goal

pub returns-in_err-b-clause-none : goal.returns-in_err-b-clause-none
returns-in_err-b-clause-none c = rw c.from_residual.ensures (tail_past _ _ c.in_err-b.ensures.lookup.3)

pub returns-in-128-to-191-clause-some : goal.returns-in-128-to-191-clause-some
returns-in-128-to-191-clause-some c =
    let h = c.in_ok-b.ensures.lookup.3 in
    let e = h.1 0 in
    (tail_bits _ _ (omega arith) (omega arith) (omega (arith, c.from.ensures)), omega (arith, c.from.ensures), h.0)

pub returns-in_default-clause-none : goal.returns-in_default-clause-none
returns-in_default-clause-none c = let e = c.in_ok-b.ensures.lookup.3.1 0 in tail_none _ (λ l. omega arith)

pub returns-in_default-2-clause-none : goal.returns-in_default-2-clause-none
returns-in_default-2-clause-none c = let e = c.in_ok-b.ensures.lookup.3.1 0 in tail_none _ (λ l. omega arith)
