-- The tokens as the words that the code keeps of them: four words each.
use Rattle.std.specs.Prelude.{ℕ, suc, ◌+◌, ◌-◌, ◌*◌, min, Bool, true, false, cond, ◌&&◌, List, [], ◌∷◌, ◌++◌, eqb, leb, length, drop}
use Rattle.chars.specs.Utf8.{decode}
use Rattle.lexer.specs.Text.{codes, same}
use Rattle.lexer.specs.Tokens.{TokenKind, word, number, quoted, str, sign, comment, newline, unterminated_string, unterminated_quote, Span, Token, tokens}

-- the words with a meaning of their own, in the order of their numbers from 1
abbrev pub keywords : List (List ℕ)
keywords =
    codes "machine" ∷ codes "kind" ∷ codes "input" ∷ codes "output" ∷ codes "tapes" ∷ codes "Q" ∷ codes "Σ" ∷ codes "Sigma" ∷ codes "Γ" ∷ codes "Gamma" ∷
    codes "blank" ∷ codes "start" ∷ codes "F" ∷ codes "δ" ∷ codes "delta" ∷ codes "acceptor" ∷ codes "transducer" ∷ codes "enumerator" ∷ codes "beaver" ∷
    codes "word" ∷ codes "unary" ∷ codes "binary" ∷ codes "lsb" ∷ codes "msb" ∷ []

-- the number of the first member that equals w, counted from n; 0 if none does
unfoldable pub position : ℕ → List (List ℕ) → List ℕ → ℕ
position n [] w = 0
position n (k ∷ ks) w = elim (same k w) [ true ↦ n | false ↦ position (suc n) ks w ]

-- a word's number among the keywords, or 0
unfoldable pub keyword : List ℕ → ℕ
unfolding position
keyword w = position 1 keywords w

-- the value of a list of digits behind n
unfoldable pub value_from : ℕ → List ℕ → ℕ
value_from n [] = n
value_from n (d ∷ ds) = value_from (n * 10 + (d - 0x30)) ds

-- the value of a number
unfoldable pub value : List ℕ → ℕ
unfolding value_from
value ds = value_from 0 ds

-- the number of a sign's kind: ( ) { } , = * and any other
unfoldable pub sign_number : ℕ → ℕ
sign_number c =
    cond (eqb c 0x28) 4 (cond (eqb c 0x29) 5 (cond (eqb c 0x7B) 6 (cond (eqb c 0x7D) 7 (cond (eqb c 0x2C) 8 (cond (eqb c 0x3D) 9 (cond (eqb c 0x2A) 10 11))))))

-- the number of a kind, in the order of the source's TokenKind
unfoldable pub kind_number : TokenKind → ℕ
unfolding sign_number
kind_number (word w) = 0
kind_number (number w) = 1
kind_number (quoted c) = 2
kind_number (str s) = 3
kind_number (sign c) = sign_number c
kind_number (comment s) = 12
kind_number newline = 13
kind_number unterminated_string = 14
kind_number unterminated_quote = 15

-- a word of one character: its code; a longer one: 110000 and its number among the keywords
unfoldable pub word_value : List ℕ → ℕ
unfolding keyword
word_value [] = 0x110000
word_value (c ∷ []) = c
word_value (c ∷ d ∷ r) = 0x110000 + keyword (c ∷ d ∷ r)

-- the word that says the most of a token: a word's value, a number's value (256 for all above 255), a
-- code, or how many bytes stand before the text
unfoldable pub token_value : Token Span → ℕ
unfolding word_value value
token_value t = elim t.kind [
  | word w ↦ word_value w
  | number w ↦ min (value w) 256
  | quoted c ↦ c
  | sign c ↦ c
  | str s ↦ t.inner.start - t.place.start
  | comment s ↦ t.inner.start - t.place.start
  | _ ↦ 0
]

-- kind, start, end, value
unfoldable pub token_words : Token Span → List ℕ
unfolding kind_number token_value
token_words t = kind_number t.kind ∷ t.place.start ∷ t.place.end ∷ token_value t ∷ []

-- the words of a list of tokens
unfoldable pub flat : List (Token Span) → List ℕ
unfolding token_words
flat [] = []
flat (t ∷ ts) = token_words t ++ flat ts

-- words at the front of a row, the rest as it was
unfoldable pub onto : List ℕ → List ℕ → List ℕ
onto ws w = ws ++ drop (length ws) w

-- the longest text and the longest plain form, in bytes
abbrev pub max_bytes : ℕ
max_bytes = 4194304

-- the words of work that n bytes of text need
abbrev pub work_needed : ℕ → ℕ
work_needed n = 6 * n + 6

-- the text is short enough, and work is long enough (paper 01: refusals 1 and 2)
unfoldable pub roomy : List ℕ → List ℕ → Bool
roomy t w = leb (length t) max_bytes && leb (work_needed (length t)) (length w)

-- the answer and work after a call of `pevzoncs_tokenize`: the number of tokens and their words at
-- the front; or all ones, and nothing changed
unfoldable pub tokenized : List ℕ → List ℕ → ℕ × List ℕ
unfolding roomy onto flat tokens decode
tokenized t w = cond (roomy t w) (length (tokens (decode t)), onto (flat (tokens (decode t))) w) (0xffff_ffff_ffff_ffff, w)
