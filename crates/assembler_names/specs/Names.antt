-- Equal names: words with the same characters, which are equal parts of the text.
use Rattle.std.specs.Prelude.{ℕ, suc, ◌+◌, ◌<◌, ◌≡◌, Bool, true, false, cond, List, [], ◌∷◌, eqb, length, get_or}
use Rattle.lexer.specs.KindWords as kinds
use Rattle.lexer.specs.Text.{same}
use Rattle.lexer.specs.Places.{part}
use Rattle.tokens.specs.declared.Token.{Token}
use Rattle.parser.specs.Row.{peek}

-- the characters of two tokens are equal
unfoldable pub same_name : List ℕ → Token → Token → Bool
same_name text a b = same (part text a.start a.end) (part text b.start b.end)

-- a word
abbrev pub is_word : Token → Bool
is_word t = eqb t.kind kinds.word

-- a word whose characters are those of t
unfoldable pub same_word : List ℕ → Token → Token → Bool
unfolding same_name
same_word text t u = cond (is_word u) (same_name text u t) false

-- a word with the characters `name`
unfoldable pub has_name : List ℕ → List ℕ → Token → Bool
has_name text name u = cond (is_word u) (same (part text u.start u.end) name) false

-- the index of the first word that has the characters of t, counted from i; the index behind the last token if there is none
unfoldable pub first_equal : List ℕ → Token → ℕ → List Token → ℕ
unfolding same_word
first_equal text t i [] = i
first_equal text t i (u ∷ us) = elim (same_word text t u) [ true ↦ i | false ↦ first_equal text t (suc i) us ]

-- the words w hold, from a on, the row of first equal words
pub record Interned (text : List ℕ) (ts : List Token) (a : ℕ) (w : List ℕ) : Type 0 where
  pub interned : (x : ℕ) → x < length ts → is_word (peek ts x) ≡ true → get_or w (a + x) 0 ≡ first_equal text (peek ts x) 0 ts

-- the row of first equal words stands for the words before the token n
pub record FirstsOf (text : List ℕ) (ts : List Token) (n : ℕ) (row : List ℕ) : Type 0 where
  pub first : (x : ℕ) → x < n → is_word (peek ts x) ≡ true → get_or row x 0 ≡ first_equal text (peek ts x) 0 ts
