-- What storing names does, with their tokens and first equal words.
use Rattle.std.specs.Prelude.{ℕ, ◌≡◌, ◌≤◌, Bool, List, length}
use Rattle.tokens.specs.declared.Token.{Token}
use Rattle.tokens.specs.Listed.{tokens_of}
use Rattle.sheet.specs.declared.put.Sheet.{Sheet}
use Rattle.sheet.specs.Puts.{Puts}
use Rattle.infer.specs.declared.names.Names.{Names}
use Rattle.infer.specs.States.{names_add, names_mark}

-- the tokens of names
abbrev pub row_of : Names → List Token
row_of n = tokens_of n.tokens

-- a row has a word for the mark of each name
abbrev pub MarksFit : Names → List ℕ → Type 0
MarksFit n marks = length n.firsts.now ≤ length marks

-- the names at some indices were stored and marked
pub record Named (n : Names) (repeats : Bool) (xs marks marks' : List ℕ) (out out' : Sheet) : Type 0 where
  pub puts : Puts (names_add n.firsts.now (row_of n) repeats marks xs) out out'
  pub marked : marks' ≡ names_mark n.firsts.now (row_of n) marks xs
