-- A record that matches is the first, one that does not is passed, and at the end there is none.
use Rattle.std.proofs.Common.{◌∙◌, sym, arith, refl}
use Rattle.runner_rules.proofs.Searched.{ahead_record, ahead_inside, ahead_found, ahead_within, ahead_next, ahead_none}
use Rattle.runner_rules.proofs.search.Rules.find.Goals as goal

pub record-record-requires : goal.record-record-requires
record-record-requires c =
    ahead_record c.args.self.now c.requires.rules c.args.state.name c.requires.known.named _ _ c.loop-record.invariant.1 c.loop-record.invariant.0

pub is_match-requires-clause-inside : goal.is_match-requires-clause-inside
is_match-requires-clause-inside c =
    ahead_inside c.args.self.now c.requires.rules c.args.state.name c.requires.known.named _ _ c.loop-record.invariant.1 c.loop-record.invariant.0
    _ c.record-record.ensures.words

pub returns-then-is_match-clause-due : goal.returns-then-is_match-clause-due
returns-then-is_match-clause-due c =
    ahead_found c.args.self.now c.requires.rules c.args.state.name c.requires.known.named _ _ c.loop-record.invariant.1 c.loop-record.invariant.0
    _ c.record-record.ensures.words _ c.requires.known.number (sym c.is_match.ensures ∙ c.if-is_match.true)

pub returns-then-is_match-clause-rule : goal.returns-then-is_match-clause-rule
returns-then-is_match-clause-rule c =
    ahead_record c.args.self.now c.requires.rules c.args.state.name c.requires.known.named _ _ c.loop-record.invariant.1 c.loop-record.invariant.0

pub returns-then-at-self-clause-due : goal.returns-then-at-self-clause-due
returns-then-at-self-clause-due c =
    let next =
    ahead_next c.args.self.now c.requires.rules c.args.state.name c.requires.known.named _ _ c.loop-record.invariant.1 c.loop-record.invariant.0
    _ c.record-record.ensures.words _ c.requires.known.number (sym c.is_match.ensures ∙ c.if-is_match.false) _ refl in
    ahead_none c.args.self.now c.requires.rules c.args.state.name c.requires.known.named _ _ next c.if-at-self.true

pub loop-record-smaller : goal.loop-record-smaller
loop-record-smaller c =
    let within =
    ahead_within c.args.self.now c.requires.rules c.args.state.name c.requires.known.named _ _ c.loop-record.invariant.1 c.loop-record.invariant.0
    _ c.record-record.ensures.words _ refl in
    omega (arith, within.0, within.1, c.loop-record.invariant.1)

pub loop-record-preserved : goal.loop-record-preserved
loop-record-preserved c = (
  ahead_next c.args.self.now c.requires.rules c.args.state.name c.requires.known.named _ _ c.loop-record.invariant.1 c.loop-record.invariant.0
      _ c.record-record.ensures.words _ c.requires.known.number (sym c.is_match.ensures ∙ c.if-is_match.false) _ refl,
  c.if-at-self.false,
)
