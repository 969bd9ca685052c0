-- All at once where there is room, or one after the other.
use Rattle.std.proofs.Common.{rules, arith, refl, ◌<◌, ◌≤◌, ◌+◌, length}
use Rattle.sheet.proofs.Puts.{words_at_once, words_on, words_all}
use Rattle.sheet.proofs.put.Sheet.words.Goals as goal

pub returns-then-self-saturating_sub : goal.returns-then-self-saturating_sub
returns-then-self-saturating_sub g c =
    let short : length c.args.self.now.row.now < 18446744073709551616 = search rules in
    let room : c.args.self.now.at + g.row.N ≤ length c.args.self.now.row.now = omega (arith, c.saturating_sub.ensures, c.if-self-saturating_sub.true, c.requires) in
    record { puts = words_at_once _ _ _ _ _ _ c.told-words (omega arith) room short c.store.ensures; same_row = refl }

pub loop-x-preserved : goal.loop-x-preserved
loop-x-preserved g c = words_on _ _ _ _ _ (omega (arith, c.loop-x-test.true, c.told-words)) c.loop-x.invariant c.word.ensures

pub returns : goal.returns
returns g c = words_all _ _ _ _ (omega (arith, c.loop-x-test.false, c.told-words)) c.loop-x.invariant
