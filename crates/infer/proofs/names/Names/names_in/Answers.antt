use Rattle.std.proofs.Common.{arith, sym, ap, ◌∙◌}
use Rattle.infer.proofs.Pages.{indices_start, indices_stop, indices_on, indices_end}
use Rattle.infer.proofs.WalkLaws.{rest_start, rest_on, rest_end}
use Rattle.infer.proofs.names.Names.names_in.Goals as goal

pub loop-x-init : goal.loop-x-init
loop-x-init c = rest_start (indices_start _ c.args.line)

pub returns-then-at-eq-NEWLINE : goal.returns-then-at-eq-NEWLINE
returns-then-at-eq-NEWLINE c =
    rest_end (indices_stop _ _ (omega (arith, c.loop-x-test.true, c.len-x-end.ensures.tokens)) (ap (λ t. t.kind) (sym c.at.ensures) ∙ c.if-at-eq-NEWLINE.true)) c.loop-x.invariant

pub loop-x-preserved : goal.loop-x-preserved
loop-x-preserved c =
    rest_on _ _ _ _ (indices_on _ _ (omega (arith, c.loop-x-test.true, c.len-x-end.ensures.tokens)) (λ e. c.if-at-eq-NEWLINE.false (ap (λ t. t.kind) c.at.ensures ∙ e))) c.loop-x.invariant c.name.ensures

pub returns : goal.returns
returns c = rest_end (indices_end _ _ (omega (arith, c.loop-x-test.false, c.len-x-end.ensures.tokens))) c.loop-x.invariant
