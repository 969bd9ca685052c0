-- `Output::byte` stores the byte where there is room.
use borrow.Author.Rules.{rules}
use Rattle.emit.proofs.Appends.{byte_full, byte_stored}
use Rattle.emit.proofs.Output.byte.Goals as goal
use Rattle.emit.proofs.Output.byte.Goals.{then-self, else-self}

pub returns : goal.returns
returns c = elim c.if-self.branch [
  | then-self w ↦ record { appends = rw w.self-is (byte_stored _ _ _ _ c.saturating_add-end.ensures); same_row = rw w.self-is; short = search rules }
  | else-self w ↦ record { appends = rw w.self-is (byte_full _ _ _ _ w.if-self.false c.saturating_add-end.ensures); same_row = rw w.self-is; short = search rules }
]
