-- The entries from here on give what those from the first on give; the index grows at each turn.
use Rattle.std.proofs.Common.{◌≡◌, ◌-◌, ◌≤◌, length}
use Rattle.parser.specs.Row.{tokens_in}
use Rattle.parser.specs.Lines.{Parser, entries}
use Rattle.parser.specs.Calls.{ReadsEntries}
use Rattle.parser.proofs.row.Row.entries.Given as goal

abbrev pub invariant-loop-entry : goal.invariant-loop-entry
invariant-loop-entry g l =
    (l.n ≤ l.i)
    × ((p : Parser) → ReadsEntries (goal.F-post g l.entry) p (tokens_in l.self.words.now) → entries p l.close (tokens_in l.self.words.now) l.i l.n ≡ entries p l.close (tokens_in l.self.words.now) l.at l.before)

abbrev pub decreases-loop-entry : goal.decreases-loop-entry
decreases-loop-entry g l = length (tokens_in l.self.words.now) - l.i
