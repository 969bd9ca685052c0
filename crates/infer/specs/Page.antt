-- The tokens of a line by their indices.
use Rattle.std.specs.Prelude.{ℕ, suc, true, false, List, [], ◌∷◌, eqb, drop}
use Rattle.tokens.specs.declared.Token.{Token}
use Rattle.lexer.specs.KindWords as kinds

-- the indices of the tokens up to the line's end, counted from i
unfoldable pub indices_from : ℕ → List Token → List ℕ
indices_from i [] = []
indices_from i (t ∷ ts) = elim (eqb t.kind kinds.newline) [ true ↦ [] | false ↦ i ∷ indices_from (suc i) ts ]

-- the indices of the tokens behind the first of the line that begins at f; none where there is no such line
unfoldable pub indices_in : List Token → ℕ → List ℕ
unfolding indices_from
indices_in ts f = indices_from (suc f) (drop (suc f) ts)
