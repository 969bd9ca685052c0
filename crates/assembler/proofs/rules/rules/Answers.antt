use Rattle.assembler.proofs.RuleLaws.{tallying_start, tallying_room, tallying_fed, tallying_on, tallying_end}
use Rattle.assembler.proofs.rules.rules.Goals as goal

pub loop-at-init : goal.loop-at-init
loop-at-init c = tallying_start _ _ _ c.requires.fed

pub rule_error-requires : goal.rule_error-requires
rule_error-requires c = tallying_room _ _ _ _ _ _ _ c.loop-at.invariant c.args.tokens.now.within c.loop-at-test.true c.requires.room

pub behind_line-at-requires-clause-fed : goal.behind_line-at-requires-clause-fed
behind_line-at-requires-clause-fed c = tallying_fed _ _ _ _ _ _ _ c.loop-at.invariant c.args.tokens.now.within _ c.loop-at-test.true c.known-t.ensures

pub loop-at-preserved : goal.loop-at-preserved
loop-at-preserved c = tallying_on _ _ _ _ _ _ _ c.loop-at.invariant c.args.tokens.now.within _ _ _ _ _ _ c.loop-at-test.true c.known-t.ensures c.verdict_at-v.ensures c.span_of.ensures c.rule_error.ensures c.after-tally.ensures c.behind_line-at.ensures

pub returns : goal.returns
returns c = tallying_end _ _ _ _ _ _ _ c.loop-at.invariant c.args.tokens.now.within c.loop-at-test.false
