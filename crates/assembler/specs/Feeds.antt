-- A row each of whose lines ends at the first line feed from its first token on, and has a comment only in front
-- of it, as the lines of an entered row do.
use Rattle.std.specs.Prelude.{ℕ, suc, ◌≡◌, true, List, [], ◌∷◌, eqb}
use Rattle.tokens.specs.declared.Token.{Token}
use Rattle.lexer.specs.KindWords as kinds
use Rattle.parser.specs.Row.{peek}
use Rattle.parser.specs.Lines.{line_length}
use Rattle.assembler.specs.Entries.{Entry, behind, entries}

-- what the first token says of the line's length is where the line feed stands
abbrev pub AllFed : List Entry → Type 0
AllFed [] = Unit {0}
AllFed (e ∷ es) = (behind e.at e.first ≡ line_length (e.first ∷ e.rest)) × AllFed es

-- each line of a row ends at its line feed
abbrev pub Fed : List Token → Type 0
Fed ts = AllFed (entries ts)

-- a line feed stands behind each comment
abbrev pub CommentsLast : List Token → Type 0
CommentsLast ts = (i : ℕ) → eqb (peek ts i).kind kinds.comment ≡ true → eqb (peek ts (suc i)).kind kinds.newline ≡ true
