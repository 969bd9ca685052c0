-- What the characters noted in a lent row are, and what noting does.
use Rattle.std.specs.Prelude.{ℕ, ◌≤◌, ◌≡◌, List, length, take}
use Rattle.std.specs.Borrow.{GName}
use Rattle.tokens.specs.declared.Token.{Token}
use Rattle.tokens.specs.Listed.{tokens_of}
use Rattle.infer_symbols.specs.Codes.{noted_all, Hinted}
use Rattle.infer_symbols.specs.Symbols.{codes_of}
use Rattle.infer_symbols.specs.declared.codes.Codes.{Codes}
use Rattle.infer_symbols.specs.declared.glyphs.Symbols.{Symbols}

-- the tokens of symbols
abbrev pub row_of : Symbols → List Token
row_of s = tokens_of s.tokens

-- the characters that are noted
abbrev pub listed : Codes → List ℕ
listed c = take c.count c.row.now

-- the loan itself: which row was lent
abbrev pub lent_row : Codes → GName
lent_row c = c.row.ghost_name

-- the characters that are noted stand in the row, and the hints are theirs
pub record Sound (c : Codes) : Type 0 where
  pub low : c.count ≤ length c.row.now
  pub hints : Hinted c.hints c.count c.row.now

-- there is room for more characters, each once
abbrev pub Fits : List ℕ → Codes → Type 0
Fits xs c = length (noted_all (listed c) xs) ≤ length c.row.now

-- characters were noted, each once, if there was room for them, in the row that was lent
pub record Notes (xs : List ℕ) (before after : Codes) : Type 0 where
  pub same_row : lent_row after ≡ lent_row before
  pub size : length after.row.now ≡ length before.row.now
  pub many : after.hints ≡ before.hints
  pub sound : Sound before → Sound after
  pub notes : Sound before → Fits xs before → listed after ≡ noted_all (listed before) xs

-- the characters of symbols were noted
pub record Uses (blank : ℕ) (ts : List Token) (before after : Codes) : Type 0 where
  pub notes : Notes (codes_of blank ts) before after
