-- The parts of a rule in the words of its record: where each stands is said here, and what each means by rule_in of
-- crates/language.
use Rattle.std.specs.Prelude.{ℕ, ◌+◌, ◌*◌, List, drop}
use Rattle.lexer.specs.Tokens.{Span}
use Rattle.language.specs.Agreement.{at, place_at}

-- how many words a rule has
abbrev pub length_of : List ℕ → ℕ
length_of ws = at ws 0

-- where the name of the state stands that a rule is for
abbrev pub from_of : List ℕ → Span
from_of ws = place_at ws 1

-- where the name of the state stands that a rule leads to
abbrev pub to_of : List ℕ → Span
to_of ws = place_at ws 3

-- where a rule's line stands
abbrev pub line_of : List ℕ → Span
line_of ws = place_at ws 5

-- where a rule's own comment stands, or none
abbrev pub comment_of : List ℕ → Span
comment_of ws = place_at ws 7

-- on how many tapes a rule acts
abbrev pub arity_of : List ℕ → ℕ
arity_of ws = at ws 9

-- how many comments lead a rule
abbrev pub leading_count_of : List ℕ → ℕ
leading_count_of ws = at ws 10

-- the words of a rule's actions, and those of the comments that lead it
abbrev pub actions_from : List ℕ → List ℕ
actions_from ws = drop 11 ws

-- the words of the comments that lead a rule
abbrev pub leading_from : List ℕ → List ℕ
leading_from ws = drop (11 + 7 * arity_of ws) ws

-- the code that a rule reads on a tape
abbrev pub read_of : List ℕ → ℕ → ℕ
read_of ws tape = at ws (11 + 7 * tape)

-- the code that a rule writes on a tape
abbrev pub write_of : List ℕ → ℕ → ℕ
write_of ws tape = at ws (11 + 7 * tape + 3)

-- the number of the direction in which a rule moves the head of a tape
abbrev pub move_of : List ℕ → ℕ → ℕ
move_of ws tape = at ws (11 + 7 * tape + 6)
