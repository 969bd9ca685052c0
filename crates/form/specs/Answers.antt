-- The answer of a reading call as a caller has it: the head by value, the words of the sheet and the bytes of the text.
use Rattle.std.specs.Prelude.{ℕ, List}
use Rattle.language.specs.Agreement.{Answer}
use Rattle.machine.specs.declared.Head.{Head}

-- an answer, from what a caller has
abbrev pub answer : Head → List ℕ → List ℕ → Answer
answer h sheet text = record { head = h; sheet = sheet; text = text }
