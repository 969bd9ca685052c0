-- The rules that are left have the answer of all.
use Rattle.std.proofs.Common.{sym, ap, ◌∙◌}
use Rattle.sheet_view.specs.Rules.{length_of}
use Rattle.sheet_view.proofs.Views.{length_is}
use Rattle.runner_fit.proofs.Fit.{arity_start, arity_other, arity_next, arity_end}
use Rattle.runner_fit.proofs.has_arity.Goals as goal

pub loop-init : goal.loop-init
loop-init c = arity_start _ _ _

pub returns-then-arity-from : goal.returns-then-arity-from
returns-then-arity-from c =
    arity_other _ _ _ _ _ c.loop-test.true c.loop.invariant _ c.rule_at-rule.ensures _ c.arity.ensures
    (λ q. c.if-arity-from.true (q ∙ sym c.from.ensures))

pub loop-preserved : goal.loop-preserved
loop-preserved c =
    let length = c.length.ensures ∙ ap length_of c.rule_at-rule.ensures ∙ length_is c.loop.rest.now in
    arity_next _ _ _ _ _ c.loop-test.true c.loop.invariant _ c.rule_at-rule.ensures _ c.arity.ensures
    (c.if-arity-from.false ∙ c.from.ensures) _ _ length c.after-rest.ensures

pub returns : goal.returns
returns c = arity_end _ _ _ _ _ c.loop-test.false c.loop.invariant
