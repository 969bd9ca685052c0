-- Past the row's end nothing is stored.
use Rattle.sheet.proofs.Puts.{word_put, word_past}
use Rattle.sheet.proofs.put.Sheet.word.Goals as goal
use Rattle.sheet.proofs.put.Sheet.word.Goals.{then-self, else-self}

pub returns : goal.returns
returns c =
    let end = c.saturating_add-self.ensures in
    elim c.if-self.branch [
      | then-self w ↦ record { puts = rw (end, w.self-is) (word_put _ _ _); same_row = rw w.self-is }
      | else-self w ↦ record { puts = rw (end, w.self-is) (word_past _ _ _ w.if-self.false); same_row = rw w.self-is }
    ]
