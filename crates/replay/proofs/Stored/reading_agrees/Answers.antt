-- The parts that are lent are within their buffers, and the text is the end of the case.
use Rattle.std.proofs.Common.{arith, rules}
use Rattle.replay.proofs.Laws.{read_unfit, case_read}
use Rattle.replay.proofs.Stored.reading_agrees.Goals as goal

pub returns-then-not-lengths_fit : goal.returns-then-not-lengths_fit
returns-then-not-lengths_fit c = search (rules, read_unfit)

pub returns : goal.returns
returns c =
    let k = c.lengths_fit.ensures.1 c.if-not-lengths_fit.false in
    let rooms = c.requires in
    case_read _ _ _ c.lengths_fit.ensures.0 c.if-not-lengths_fit.false _ _ _ _ c.size_at-w.ensures.0 c.size_at-l.ensures.0 c.size_at-s.ensures.0 c.size_at.ensures.0 k _ _ _ _
    (omega (arith, k.work, c.size_at-w.ensures.0, rooms.work)) (omega (arith, k.log, c.size_at-l.ensures.0, rooms.log)) (omega (arith, k.sheet, c.size_at-s.ensures.0, rooms.sheet))
    c.read_agrees.ensures
