-- Each window makes the wait the lesser of two.
use Rattle.std.proofs.Common.{◌≡◌, min, ◌∙◌, arith}
use Rattle.hours.specs.Hours.{is_open, waiting}
use Rattle.hours.proofs.Waits.{least_to-none, least_to-more}
use Rattle.hours.proofs.Hours.shortest.Goals as goal

pub loop-i-init : goal.loop-i-init
loop-i-init c = least_to-none c.args.self.now.opens c.args.self.now.closes c.args.minute

pub loop-i-preserved : goal.loop-i-preserved
loop-i-preserved c =
    let e : c.min-best.result ≡ min c.loop-i.best c.wait_of.result = omega arith in
    e
    ∙ least_to-more c.args.self.now.opens c.args.self.now.closes c.loop-i.i c.args.minute c.loop-i.best c.wait_of.result c.requires (omega arith) (omega arith) c.loop-i.invariant c.wait_of.ensures

pub returns : goal.returns
unfolding waiting is_open
returns c = let e : c.loop-i.i ≡ min c.args.self.now.count 32 = omega arith in rw e at c.loop-i.invariant
