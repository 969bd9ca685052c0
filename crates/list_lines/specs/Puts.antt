-- What the functions that print leave of an output.
use Rattle.language.specs.Plain.{Piece}
use Rattle.emit.specs.declared.Output.{Output}
use Rattle.emit.specs.Puts as E

-- a piece was printed: its bytes were appended, whatever follows it, to the row that was lent
abbrev pub Puts : Piece → Output → Output → Type 0
Puts p before after = E.Puts (λ bytes. bytes) p before after
