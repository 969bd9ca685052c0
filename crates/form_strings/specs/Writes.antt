-- What the functions of the writer leave of an output.
use Rattle.chars.specs.Utf8.{encode}
use Rattle.language.specs.Plain.{Piece}
use Rattle.emit.specs.declared.Output.{Output}
use Rattle.emit.specs.Puts.{Puts}

-- a piece was written: its characters in UTF-8 were appended, whatever text follows it, to the row that was lent
abbrev pub Writes : Piece → Output → Output → Type 0
Writes p before after = Puts encode p before after
