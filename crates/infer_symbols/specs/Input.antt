-- The characters of the input's value: the text behind a string's quote, escapes undone.
use Rattle.std.specs.Prelude.{ℕ, ◌+◌, Bool, true, false, cond, List, [], ◌∷◌, ◌++◌, eqb, ltb, length}
use Rattle.lexer.specs.Places.{rest}
use Rattle.tokens.specs.declared.Token.{Token}
use Rattle.parser.specs.Row.{peek}

-- a string ends at its quote or at the line's end; `escaped`: a backslash stands before
unfoldable pub ends_at : Bool → ℕ → Bool
ends_at escaped c = cond (eqb c 10) true (cond escaped false (eqb c 0x22))

-- what a backslash and c stand for: \" \\ \n \t; 0 for nothing
unfoldable pub escape_code : ℕ → ℕ
escape_code c = cond (eqb c 0x22) 0x22 (cond (eqb c 0x5C) 0x5C (cond (eqb c 0x6E) 10 (cond (eqb c 0x74) 9 0)))

-- what a backslash and c add to the value: both stand for themselves where they stand for nothing else
unfoldable pub escape_of : ℕ → List ℕ
unfolding escape_code
escape_of c = cond (eqb (escape_code c) 0) (0x5C ∷ c ∷ []) (escape_code c ∷ [])

-- what one character adds to the value
unfoldable pub spelled_as : Bool → ℕ → List ℕ
unfolding escape_of
spelled_as escaped c = cond escaped (escape_of c) (cond (eqb c 0x5C) [] (c ∷ []))

-- whether c is a backslash that the next character is read with
unfoldable pub escapes_next : Bool → ℕ → Bool
escapes_next escaped c = cond escaped false (eqb c 0x5C)

-- a string's value, from the characters behind its quote
unfoldable pub spelled : Bool → List ℕ → List ℕ
unfolding ends_at spelled_as escapes_next
spelled escaped [] = []
spelled escaped (c ∷ r) = elim (ends_at escaped c) [ true ↦ [] | false ↦ spelled_as escaped c ++ spelled (escapes_next escaped c) r ]

-- the input's value, declared by the line at d: the string's value says how many bytes stand before its text
unfoldable pub input_of : List ℕ → List Token → ℕ → List ℕ
unfolding spelled
input_of text ts d = let t = peek ts (d + 1) in cond (ltb d (length ts)) (spelled false (rest text (t.start + t.value))) []
