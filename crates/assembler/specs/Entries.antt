-- The lines of a row whose first tokens are entries: what a line holds stands in its first
-- token, and the line feed's index with it.
-- An item's kind is 16 and its number, a failure's 32 and its code; a comment alone (12) and a line feed (13) are what they were.
use Rattle.std.specs.Prelude.{ℕ, zero, suc, ◌-◌, Bool, true, false, cond, List, [], ◌∷◌, eqb, leb, drop}
use Rattle.tokens.specs.declared.Token.{Token}
use Rattle.parser.specs.Row.{peek}
use Rattle.lexer.specs.KindWords as kinds
use Rattle.assembler.specs.EntryNumbers as entry

-- a line: the index of its first token, that token, and all tokens behind it
pub record Entry : Type 0 where
  pub at : ℕ
  pub first : Token
  pub rest : List Token

-- the line that begins at an index
abbrev pub entry_at : List Token → ℕ → Entry
entry_at ts i = record { at = i; first = peek ts i; rest = drop (suc i) ts }

-- tokens among which one is of the kind k
unfoldable pub has_kind : ℕ → List Token → Bool
has_kind k [] = false
has_kind k (t ∷ ts) = elim (eqb t.kind k) [ true ↦ true | false ↦ has_kind k ts ]

-- how many tokens of its line follow the first, t, at the index i
unfoldable pub behind : ℕ → Token → ℕ
behind i t = cond (leb entry.item t.kind) (t.value - i) (cond (eqb t.kind kinds.comment) 1 0)

-- the lines from the index i on, the first k tokens of the list passed over
unfoldable pub entries_from : ℕ → ℕ → List Token → List Entry
unfolding behind
entries_from k i [] = []
entries_from (suc k) i (t ∷ ts) = entries_from k (suc i) ts
entries_from zero i (t ∷ ts) = record { at = i; first = t; rest = ts } ∷ entries_from (behind i t) (suc i) ts

-- the lines of a row
unfoldable pub entries : List Token → List Entry
unfolding entries_from
entries ts = entries_from 0 0 ts
