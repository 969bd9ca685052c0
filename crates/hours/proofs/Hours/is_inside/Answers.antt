-- The minute is outside each window that is passed by, and one that has it inside settles the answer.
use Rattle.std.proofs.Common.{◌≡◌, min, sym, ◌∙◌, arith}
use Rattle.hours.specs.Hours.{is_open}
use Rattle.hours.proofs.Waits.{open-passed, open-found}
use Rattle.hours.proofs.Hours.is_inside.Goals as goal

pub returns-then-inside : goal.returns-then-inside
unfolding is_open
returns-then-inside c =
    sym (open-found c.args.self.now.opens c.args.self.now.closes (min c.args.self.now.count 32) c.loop-i.i c.args.minute (omega arith) (omega arith) (omega arith) (sym c.inside.ensures ∙ c.if-inside.true))

pub loop-i-preserved : goal.loop-i-preserved
loop-i-preserved c =
    open-passed _ _ c.loop-i.i c.args.minute (omega arith) (omega arith) c.loop-i.invariant (sym c.inside.ensures ∙ c.if-inside.false)

pub returns : goal.returns
unfolding is_open
returns c = let e : c.loop-i.i ≡ min c.args.self.now.count 32 = omega arith in rw e at (sym c.loop-i.invariant)
