use Rattle.diag.proofs.Appending.{appends_count}
use Rattle.assembler.proofs.SurveyLaws.{no_count, surveying_start, survey_fed, survey_blank, survey-on, survey-end}
use Rattle.assembler.proofs.survey.survey.Goals as goal

pub loop-at-init : goal.loop-at-init
loop-at-init c = surveying_start _ _ _ _ _ _ c.requires.fed (no_count c.new-failures.result _ c.new-failures.ensures.none) (no_count c.new-names.result _ c.new-names.ensures.none) (no_count c.new-wrong.result _ c.new-wrong.ensures.none)

pub loop-at-preserved-then-t-lt-ITEM : goal.loop-at-preserved-then-t-lt-ITEM
loop-at-preserved-then-t-lt-ITEM c = survey_blank _ _ _ _ _ _ _ _ _ c.loop-at.invariant c.args.tokens.now.within _ _ c.loop-at-test.true c.known-t.ensures c.if-t-lt-ITEM.true c.next_line-at.ensures

pub behind_line-at-requires-clause-fed : goal.behind_line-at-requires-clause-fed
behind_line-at-requires-clause-fed c = survey_fed _ _ _ _ _ _ _ _ _ c.loop-at.invariant c.args.tokens.now.within _ c.loop-at-test.true c.known-t.ensures

pub loop-at-preserved : goal.loop-at-preserved
loop-at-preserved c = survey-on _ _ _ _ _ _ _ _ _ c.loop-at.invariant c.args.tokens.now.within _ _ _ _ _ _ _ _ _ c.loop-at-test.true c.known-t.ensures (appends_count _ _ _ c.line_error.ensures) c.declaration.ensures.first (appends_count _ _ _ c.declaration.ensures.log) c.verdict_at-v.ensures c.span_of.ensures (appends_count _ _ _ c.rule_error.ensures) c.after-tally.ensures c.behind_line-at.ensures

pub returns : goal.returns
returns c = rw (c.count.ensures, c.count-2.ensures, c.count-3.ensures) (survey-end _ _ _ _ _ _ _ _ _ c.loop-at.invariant c.args.tokens.now.within c.loop-at-test.false)
