-- What a function learns of a closure that it is given: `post` is what a call may answer.
use Rattle.std.specs.Prelude.{ℕ, Bool, List, ◌≡◌, ◌<◌, ◌≤◌, length, IfOk}
use Rattle.tokens.specs.declared.Token.{Token}
use Rattle.parser.specs.Lines.{Parsed, Parser}

-- a closure tells of each token what f does
abbrev pub Tells : (Token → Bool → Type 0) → (Token → Bool) → Type 0
Tells post f = (t : Token) (b : Bool) → post t b → b ≡ f t

-- a closure reads from each index on what p does
abbrev pub Reads : (ℕ → Parsed ℕ → Type 0) → (ℕ → Parsed ℕ) → Type 0
Reads post p = (i : ℕ) (r : Parsed ℕ) → post i r → r ≡ p i

-- what was read from an index on takes a token, and ends in the row
abbrev pub Within : List Token → ℕ → Parsed ℕ → Type 0
Within ts i r = IfOk r (λ read. (i < read.0) × (read.0 ≤ length ts))

-- a parser of entries: what it reads takes a token
pub record Steps (p : Parser) : Type 0 where
  pub within : (ts : List Token) (i : ℕ) → Within ts i (p ts i)

-- the closure reads such entries of a row
pub record ReadsEntries (post : ℕ → Parsed ℕ → Type 0) (p : Parser) (ts : List Token) : Type 0 where
  pub steps : Steps p
  pub reads : Reads post (p ts)
