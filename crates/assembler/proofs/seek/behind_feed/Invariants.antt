use Rattle.assembler.proofs.Rows.{Seeking}
use Rattle.assembler.proofs.seek.behind_feed.Given as goal

abbrev pub invariant-loop-i : goal.invariant-loop-i
invariant-loop-i l = Seeking l.tokens.count l.tokens.words.now l.at l.i
