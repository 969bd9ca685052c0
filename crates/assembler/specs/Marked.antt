-- Marks in a row of their own, for the names of a text.
use Rattle.std.specs.Prelude.{ℕ, ◌≤◌, List, length}
use Rattle.tokens.specs.declared.Token.{Token}
use Rattle.tokens.specs.Listed.{tokens_of}
use Rattle.assembler.specs.declared.finals.Names.{Names}
use Rattle.assembler.specs.Finals.{MarkedIn}

-- the tokens of names
abbrev pub row_of : Names → List Token
row_of n = tokens_of n.tokens

-- a row has a word for the mark of each name
abbrev pub HasMarks : Names → List ℕ → Type 0
HasMarks n marks = n.tokens.count ≤ length marks

-- the row of marks holds the mark of each name
abbrev pub Marked : Names → List ℕ → List ℕ → List ℕ → Type 0
Marked n marks qs before = MarkedIn n.text.now (row_of n) n.firsts.now marks qs before
