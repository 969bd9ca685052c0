-- What a rule reads on its tapes: the sets, and the wheels that the code turns, an entry's index
-- and the index of one of its members each.
use Rattle.std.specs.Prelude.{ℕ, zero, suc, ◌+◌, ◌*◌, Bool, true, false, cond, List, [], ◌∷◌, length, drop, ◌==◌, nat_lt}
use Rattle.tokens.specs.declared.Token.{Token}
use Rattle.parser.specs.Row.{ended, peek}
use Rattle.sheet.specs.Turns.{Wheel, turned, later}
use Rattle.lexer.specs.KindWords as kinds

-- the members of a set from one on: a comma goes on to the next
unfoldable pub members : List Token → List Token
members [] = ended ∷ []
members (t ∷ []) = t ∷ []
members (t ∷ s ∷ r) = elim (s.kind == kinds.comma) [ true ↦ t ∷ members r | false ↦ t ∷ [] ]

-- the sets that n entries read, as far as there are tokens; an entry is a set or one symbol
unfoldable pub read_sets : ℕ → List Token → List (List Token)
unfolding members
read_sets zero ts = []
read_sets (suc n) [] = []
read_sets (suc n) (t ∷ r) = elim (t.kind == kinds.l_brace) [
  | true ↦ members r ∷ read_sets n (drop (2 * length (members r) + 1) r)
  | false ↦ (t ∷ []) ∷ read_sets n (drop 1 r)
]

-- the first member of the entry at the index e: the symbol itself, or what stands behind `{`
unfoldable pub first_member : List Token → ℕ → ℕ
first_member ts e = cond ((peek ts e).kind == kinds.l_brace) (e + 1) e

-- whether the entry at e goes on from its member at c: a set does where a comma follows
unfoldable pub goes_on : List Token → ℕ → ℕ → Bool
goes_on ts e c = cond ((peek ts e).kind == kinds.l_brace) ((peek ts (c + 1)).kind == kinds.comma) false

-- the index of the entry behind the one at e
unfoldable pub next_entry : List Token → ℕ → ℕ
unfolding members
next_entry ts e = cond ((peek ts e).kind == kinds.l_brace) (e + 1 + 2 * length (members (drop (e + 1) ts)) + 1) (e + 2)

-- the indices of n entries from i on
unfoldable pub entries_of : List Token → ℕ → ℕ → List ℕ
unfolding next_entry
entries_of ts zero i = []
entries_of ts (suc n) i = elim (nat_lt i (length ts)) [ true ↦ i ∷ entries_of ts n (next_entry ts i) | false ↦ [] ]

-- the entries as wheels: from an index on, a set's members, or the one symbol
abbrev pub wheel : List Token → Wheel ℕ ℕ Token
wheel ts = record {
  no_entry = 0;
  no_position = 0;
  first = first_member ts;
  goes_on = goes_on ts;
  step = λ c. c + 2;
  value = peek ts;
  from = λ e c. cond ((peek ts e).kind == kinds.l_brace) (members (drop c ts)) (peek ts c ∷ []);
}

-- the choices behind the one that stands
unfoldable pub choices_behind : List Token → List ℕ → List ℕ → List (List Token)
unfolding later turned first_member goes_on members
choices_behind ts es cs = later (wheel ts) es (turned (wheel ts) es cs (length es))
