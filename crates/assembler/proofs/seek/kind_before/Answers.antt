use native.Mathlib.Omega.{arith}
use Rattle.assembler.proofs.Rows.{kind-end, kind_here, kind-on}
use Rattle.assembler.proofs.seek.kind_before.Goals as goal

pub returns-then-known-k : goal.returns-then-known-k
returns-then-known-k c =
    kind_here _ _ _ _ _ _ c.loop-i.invariant c.args.tokens.now.within c.loop-i-test.true (omega (arith, c.loop-i.auto.i, c.requires)) _ c.known.ensures c.if-known-k.true

pub loop-i-preserved : goal.loop-i-preserved
loop-i-preserved c =
    kind-on _ _ _ _ _ _ c.loop-i.invariant c.args.tokens.now.within c.loop-i-test.true (omega (arith, c.loop-i.auto.i, c.requires)) _ c.known.ensures c.if-known-k.false

pub returns : goal.returns
returns c = kind-end _ _ _ _ _ _ c.loop-i.invariant c.loop-i-test.false
