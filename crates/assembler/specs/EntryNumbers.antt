-- Describes the code: the numbers of entries, under the names that crates/assembler/src/entry.rt
-- gives them. Files use this one as `entry`.
use Rattle.std.specs.Prelude.{ℕ, ◌+◌}
use Rattle.parser.specs.ItemNumbers as items

-- the kind of an item's entry: this and its number
abbrev pub item : ℕ
item = 16

-- the kind of a failed line's entry: this and its code
abbrev pub failed : ℕ
failed = 32

-- the kind of a rule's entry
abbrev pub rule : ℕ
rule = item + items.transition

-- how far behind its entry a value stands whose keyword is followed by it
abbrev pub bare_value : ℕ
bare_value = 1

-- how far behind its entry a value stands whose keyword is followed by `=`
abbrev pub value : ℕ
value = 2

-- how far behind a rule's entry its `(` stands, which holds how many entries it reads and writes, and how many moves it has
abbrev pub counts : ℕ
counts = 1

-- how far behind a rule's entry the state stands in which it applies
abbrev pub from : ℕ
from = 2

-- how far behind a rule's entry the comma stands that holds the indices of its next state, of what it writes and of its moves
abbrev pub parts : ℕ
parts = 3

-- how far behind a rule's entry begins what it reads
abbrev pub read : ℕ
read = 4
