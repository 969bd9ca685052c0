use Rattle.assembler.proofs.Passes.{passing_start, passing_room}
use Rattle.assembler.proofs.FailureLaws.{line_on, line_end_lem}
use Rattle.assembler.specs.Failures.{line_errors}
use Rattle.assembler.proofs.failures.line_errors.Goals as goal

pub loop-at-init : goal.loop-at-init
loop-at-init c = passing_start _ line_errors _ c.requires.fed

pub line_error-requires : goal.line_error-requires
line_error-requires c = passing_room _ _ _ _ _ line_errors _ c.loop-at.invariant c.loop-at-test.true c.requires.room

pub loop-at-preserved : goal.loop-at-preserved
loop-at-preserved c = line_on _ _ _ _ _ _ c.loop-at.invariant c.args.tokens.now.within _ _ _ c.loop-at-test.true c.known.ensures c.line_error.ensures c.behind_feed-at.ensures

pub returns : goal.returns
returns c = line_end_lem _ _ _ _ _ _ c.loop-at.invariant c.args.tokens.now.within c.loop-at-test.false
