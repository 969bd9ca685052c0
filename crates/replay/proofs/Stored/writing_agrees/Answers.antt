-- The parts that are lent are within their buffers, and the text is the end of the case.
use Rattle.std.proofs.Common.{arith, rules}
use Rattle.replay.proofs.Laws.{write_unfit, write_long, case_written}
use Rattle.replay.proofs.Stored.writing_agrees.Goals as goal

pub returns-then-not-lengths_fit : goal.returns-then-not-lengths_fit
returns-then-not-lengths_fit c = search (rules, write_unfit)

pub returns-then-o-gt-OUTPUT : goal.returns-then-o-gt-OUTPUT
returns-then-o-gt-OUTPUT c = write_long _ _ _ c.lengths_fit.ensures.0 c.if-not-lengths_fit.false _ c.size_at-o.ensures.0 c.if-o-gt-OUTPUT.true

pub returns : goal.returns
returns c =
    let k = c.lengths_fit.ensures.1 c.if-not-lengths_fit.false in
    let rooms = c.requires.rooms in
    case_written _ _ _ c.lengths_fit.ensures.0 c.if-not-lengths_fit.false _ _ _ _ c.size_at-w.ensures.0 c.size_at-l.ensures.0 c.size_at-s.ensures.0 c.size_at.ensures.0 k _ _ _ _
    (omega (arith, k.work, c.size_at-w.ensures.0, rooms.work)) (omega (arith, k.log, c.size_at-l.ensures.0, rooms.log)) (omega (arith, k.sheet, c.size_at-s.ensures.0, rooms.sheet))
    _ _ c.size_at-o.ensures.0 c.if-o-gt-OUTPUT.false (omega (arith, c.if-o-gt-OUTPUT.false, c.requires.output)) c.write_agrees.ensures
