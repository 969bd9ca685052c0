-- The rules that are left go behind what is written.
use Rattle.std.proofs.Common.{ap, ◌∙◌, get_or}
use Rattle.sheet_view.proofs.Views.{length_is}
use Rattle.form_rules.proofs.RuleWords.{formed-all, formed_here, formed-next, rules-start, rules-on, rules-end}
use Rattle.form_rules.proofs.rules.Goals as goal

pub loop-init : goal.loop-init
loop-init c = record { formed = formed-all _ _ _ c.requires; goes = rules-start _ _ _ _ }

pub invariant_of-rule : goal.invariant_of-rule
invariant_of-rule c = record { formed = formed_here _ _ _ _ c.loop-test.true _ c.rule_at.ensures c.loop.invariant.formed }

pub loop-preserved : goal.loop-preserved
loop-preserved c =
    let t = c.loop-test.true in
    let l = c.loop.invariant in
    let r = c.rule_at.ensures in
    let length = c.length.ensures ∙ ap (λ ws. get_or ws 0 0) r ∙ length_is c.loop.rest.now in
    record {
      formed = formed-next _ _ _ _ t _ r _ _ length c.after-rest.ensures l.formed;
      goes = rules-on _ _ _ _ t _ r _ _ length c.after-rest.ensures _ _ _ _ l.goes c.lines.ensures;
    }

pub returns : goal.returns
returns c = rules-end _ _ _ _ _ _ _ c.loop-test.false c.loop.invariant.goes
