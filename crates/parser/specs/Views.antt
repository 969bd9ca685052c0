-- What the parser asks of one token. Its kind and value are the words of lexer/specs/Words.antt.
use Rattle.std.specs.Prelude.{ℕ, ◌+◌, ◌-◌, ◌*◌, ◌≤◌, ◌<◌, ◌≡◌, Bool, true, false, cond, not, List, [], ◌∷◌, eqb, ltb, leb, length, None, Option, Some}
use Rattle.lexer.specs.KeywordValues as keywords
use Rattle.lexer.specs.KindWords as kinds
use Rattle.parser.specs.Row.{peek}
use Rattle.tokens.specs.declared.Token.{Token}
use Rattle.diag.specs.declared.Span.{Span}
use Rattle.parser.specs.declared.ItemKind.{ItemKind}
use Rattle.parser.specs.declared.ItemKind.TheVariants.{Machine, Kind, Input, Output, Tapes, States, InputAlphabet, TapeAlphabet, Blank, Start, Final, Transition}
use Rattle.parser.specs.declared.Lead.{Lead}
use Rattle.parser.specs.declared.Lead.TheVariants.{Equals, Nothing, Whole}

-- a token's place
abbrev pub span_of : Token → Span
span_of t = record { start = t.start; end = t.end }

-- a token of the kind k
unfoldable pub is_kind : ℕ → Token → Bool
is_kind k t = eqb t.kind k

-- a word among the keywords whose values are from `first` to `last`
unfoldable pub is_choice : ℕ → ℕ → Token → Bool
is_choice first last t = cond (eqb t.kind kinds.word) (cond (leb first t.value) (leb t.value last) false) false

-- a state: a word but `_`
unfoldable pub is_state : Token → Bool
is_state t = cond (eqb t.kind kinds.word) (not (eqb t.value 0x5F)) false

-- a symbol: a word or a number of one character, a quoted character, or another sign but `;`
unfoldable pub is_symbol : Token → Bool
is_symbol t =
    cond (eqb t.kind kinds.word) (ltb t.value keywords.longer)
    (cond (eqb t.kind kinds.number) (eqb (t.start + 1) t.end)
    (cond (eqb t.kind kinds.quoted) true
    (cond (eqb t.kind kinds.other) (not (eqb t.value 0x3B)) false)))

-- a symbol and a comma from an index on
unfoldable pub is_pair : List Token → ℕ → Bool
unfolding is_symbol
is_pair ts i = cond (is_symbol (peek ts i)) (eqb (peek ts (i + 1)).kind kinds.comma) false

-- m pairs of a symbol and a comma from an index on
pub record Pairs (ts : List Token) (at m : ℕ) : Type 0 where
  pub inside : 2 * m ≤ length ts - at
  pub pairs : (j : ℕ) → j < m → is_pair ts (at + 2 * j) ≡ true

-- what is written: `*` or a symbol
unfoldable pub is_write : Token → Bool
unfolding is_symbol
is_write t = cond (eqb t.kind kinds.star) true (is_symbol t)

-- L, R or N
unfoldable pub is_move : ℕ → Bool
is_move c = cond (eqb c 0x4C) true (cond (eqb c 0x52) true (eqb c 0x4E))

-- a direction: L, R or N, as a word or quoted
unfoldable pub is_direction : Token → Bool
unfolding is_move
is_direction t = cond (eqb t.kind kinds.word) (is_move t.value) (cond (eqb t.kind kinds.quoted) (is_move t.value) false)

-- what is no direction and is told so: a word, a number, a quoted character, `*` or another sign
unfoldable pub is_text : Token → Bool
is_text t = cond (ltb t.kind kinds.str) true (cond (eqb t.kind kinds.star) true (eqb t.kind kinds.other))

-- a word's value and the item that it starts
pub data Row : Type 0 where
  row : ℕ → ItemKind → Row

-- the words that start an item: those of one character by their codes, the others by 110000 and their numbers among the keywords
abbrev pub starts : List Row
starts =
    row keywords.machine Machine ∷ row keywords.kind Kind ∷ row keywords.input Input ∷ row keywords.output Output ∷ row keywords.tapes Tapes ∷ row keywords.q States ∷
    row keywords.sigma_sign InputAlphabet ∷ row keywords.sigma InputAlphabet ∷ row keywords.gamma_sign TapeAlphabet ∷ row keywords.gamma TapeAlphabet ∷ row keywords.blank Blank ∷
    row keywords.start Start ∷ row keywords.f Final ∷ row keywords.delta_sign Transition ∷ row keywords.delta Transition ∷ []

-- the item of the first row with a value
unfoldable pub lookup : List Row → ℕ → Option ItemKind
lookup [] v = None
lookup (row n k ∷ r) v = cond (eqb v n) (Some k) (lookup r v)

-- the item that a token starts
unfoldable pub keyword_of : Token → Option ItemKind
unfolding lookup
keyword_of t = cond (eqb t.kind kinds.word) (lookup starts t.value) None

-- what stands between an item's keyword and its value: `=` or nothing; a rule's value is the whole rule
unfoldable pub lead_of : ItemKind → Lead
lead_of Machine = Nothing
lead_of Kind = Nothing
lead_of Input = Nothing
lead_of Output = Nothing
lead_of Tapes = Equals
lead_of States = Equals
lead_of InputAlphabet = Equals
lead_of TapeAlphabet = Equals
lead_of Blank = Equals
lead_of Start = Equals
lead_of Final = Equals
lead_of Transition = Whole
