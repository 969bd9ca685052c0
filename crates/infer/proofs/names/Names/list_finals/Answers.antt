use Rattle.std.proofs.Common.{arith, sym, ap, ◌∙◌}
use Rattle.infer.specs.Names.{row_of}
use Rattle.infer.specs.States.{list_finals}
use Rattle.infer.proofs.Pages.{indices_start, indices_stop, indices_end}
use Rattle.infer.proofs.WalkLaws.{listing_on, listing_end}
use Rattle.infer.proofs.names.Names.list_finals.Goals as goal

pub loop-x-init : goal.loop-x-init
loop-x-init c = ap (list_finals c.args.self.now.firsts.now (row_of c.args.self.now) c.args.marks.now) (indices_start (row_of c.args.self.now) c.args.line)

pub returns-then-at-eq-NEWLINE : goal.returns-then-at-eq-NEWLINE
returns-then-at-eq-NEWLINE c =
    listing_end _ _ _ _ _ c.loop-x.invariant (indices_stop _ _ (omega (arith, c.loop-x-test.true, c.len-x-end.ensures.tokens)) (ap (λ t. t.kind) (sym c.at.ensures) ∙ c.if-at-eq-NEWLINE.true))

pub loop-x-preserved : goal.loop-x-preserved
loop-x-preserved c =
    listing_on _ _ _ _ _ c.loop-x.invariant (omega (arith, c.loop-x-test.true, c.len-x-end.ensures.tokens)) (λ e. c.if-at-eq-NEWLINE.false (ap (λ t. t.kind) c.at.ensures ∙ e)) _ c.list_final.ensures

pub returns : goal.returns
returns c = listing_end _ _ _ _ _ c.loop-x.invariant (indices_end _ _ (omega (arith, c.loop-x-test.false, c.len-x-end.ensures.tokens)))
