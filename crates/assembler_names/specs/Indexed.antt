-- What an index is to a text and its tokens.
use Rattle.std.specs.Prelude.{ℕ, List}
use Rattle.assembler_names.specs.Index.{IndexOf}
use Rattle.assembler_names.specs.declared.words.Words.{Words}
use Rattle.assembler_names.specs.declared.table.Layout.{Layout}
use Rattle.assembler_names.specs.Words.{tokens_of}

-- the words before the token n are in the row of first equal words and in the table, which is laid out so
abbrev pub Indexed : Words → Layout → ℕ → List ℕ → List ℕ → Type 0
Indexed w l n row slots = IndexOf w.text.now (tokens_of w) l.letters l.span n row slots
