-- The transitions that are left go behind those that are printed.
use Rattle.std.proofs.Common.{ap, ◌∙◌, get_or}
use Rattle.list_lines.specs.Listing.{transition, transition_lines}
use Rattle.emit.proofs.Chain.{◌▹◌, goes_from}
use Rattle.list_lines.proofs.Chain.{said, counted, same}
use Rattle.sheet_view.proofs.Records.{records-start}
use Rattle.list_lines.proofs.Lists.{rules-on, rules-end}
use Rattle.sheet_view.proofs.Views.{length_is}
use Rattle.list_lines.proofs.transition_lines.Goals as goal

pub loop-i-init : goal.loop-i-init
unfolding transition_lines
loop-i-init c = rw (records-start c.args.n c.args.rules.now) (goes_from (said c.bytes.ensures ▹ counted c.into.ensures c.decimal.ensures ▹ said c.bytes-2.ensures))

pub loop-i-preserved : goal.loop-i-preserved
loop-i-preserved c =
    let rule = c.rule_at-rule.ensures in
    let length = c.length.ensures ∙ ap (λ ws. get_or ws 0 0) rule ∙ length_is c.loop-i.rest.now in
    rw (c.after-rest.ensures, length) (rules-on _ _ _ _ c.loop-i-test.true c.loop-i.invariant (same (ap (transition c.args.text.now) rule) c.transition.ensures))

pub returns : goal.returns
returns c = rules-end _ _ _ _ c.loop-i-test.false c.loop-i.invariant
