use native.Mathlib.Omega.{arith}
use Rattle.assembler.proofs.FirstLines.{asked_is}
use Rattle.assembler.proofs.FinalLaws.{listing_start, listing_room, listing-on, listing_stop, listing-end}
use Rattle.assembler.proofs.finals.Names.final_errors.Goals as goal

pub loop-i-init : goal.loop-i-init
loop-i-init c = listing_start c.args.self.now _ _ _ _ _ _ (asked_is _ _ c.line.ensures c.is_some-declared.ensures) c.requires.marks

pub returns-then-at-eq-NEWLINE : goal.returns-then-at-eq-NEWLINE
returns-then-at-eq-NEWLINE c = listing_stop c.args.self.now _ _ _ _ _ _ _ c.loop-i.invariant _ c.loop-i-test.true c.at.ensures c.if-at-eq-NEWLINE.true

pub final_at-requires-clause-room : goal.final_at-requires-clause-room
final_at-requires-clause-room c = (omega (arith, c.requires.room.0, c.loop-i.auto.marks), listing_room c.args.self.now _ _ _ _ _ _ _ c.loop-i.invariant c.loop-i-test.true c.requires.room.1)

pub loop-i-preserved : goal.loop-i-preserved
loop-i-preserved c = listing-on c.args.self.now _ _ _ _ _ _ _ c.loop-i.invariant _ _ _ c.loop-i-test.true c.at.ensures c.if-at-eq-NEWLINE.false c.final_at.ensures.listed

pub returns : goal.returns
returns c = listing-end c.args.self.now _ _ _ _ _ _ _ c.loop-i.invariant c.loop-i-test.false
