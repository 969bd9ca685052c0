-- Paper 01, "lexer.rs": a text, as code points, becomes tokens.
use Rattle.std.specs.Prelude.{ℕ, zero, suc, ◌+◌, ◌-◌, Bool, true, false, ◌&&◌, ◌||◌, not, List, [], ◌∷◌, ◌++◌, eqb, length, take, Option, None, Some}
use Rattle.chars.specs.Utf8.{size, sizes}
use Rattle.chars.specs.Class.{class_of}
use Rattle.chars.specs.declared.Class.{Class}
use Rattle.chars.specs.declared.Class.TheVariants.{Letter, Digit, Space, Sign, Other}
pub use Rattle.diag.specs.declared.Span.{Span}

-- what a token is; words, numbers and comments with their characters, strings with their escapes undone
pub data TokenKind : Type 0 where
  word number : List ℕ → TokenKind
  quoted : ℕ → TokenKind
  str : List ℕ → TokenKind
  -- one of ( ) { } , = * or any other character
  sign : ℕ → TokenKind
  comment : List ℕ → TokenKind
  newline unterminated_string unterminated_quote : TokenKind

-- the place from a to b (paper 01: place): a half-open range of byte offsets
abbrev pub span : ℕ → ℕ → Span
span a b = record { start = a; end = b }

-- a token with its place, and the place of its text: between a string's quotes, behind a comment's
-- slashes and one space; P is the type of places
pub record Token (P : Type 0) : Type 0 where
  pub kind : TokenKind
  pub place : P
  pub inner : P

-- letters
abbrev pub is_letter : Class → Bool
is_letter Letter = true
is_letter _ = false

-- ASCII digits
abbrev pub is_digit : Class → Bool
is_digit Digit = true
is_digit _ = false

-- white space, line feed included
abbrev pub is_space : Class → Bool
is_space Space = true
is_space _ = false

-- a word, which starts with a letter or `_`, goes on with letters, ASCII digits, `_` and `'`
unfoldable pub is_word_continue : ℕ → Bool
unfolding class_of
is_word_continue c = is_letter (class_of c) || is_digit (class_of c) || eqb c 0x5F || eqb c 0x27

-- an ASCII digit
unfoldable pub is_ascii_digit : ℕ → Bool
unfolding class_of
is_ascii_digit c = is_digit (class_of c)

-- white space, line feed included
unfoldable pub is_whitespace : ℕ → Bool
unfolding class_of
is_whitespace c = is_space (class_of c)

-- the longest beginning whose characters pass the test
unfoldable pub run : (ℕ → Bool) → List ℕ → List ℕ
run ok [] = []
run ok (c ∷ r) = elim (ok c) [ true ↦ c ∷ run ok r | false ↦ [] ]

-- the rest of the line
unfoldable pub line : List ℕ → List ℕ
line [] = []
line (c ∷ r) = elim (eqb c 10) [ true ↦ [] | false ↦ c ∷ line r ]

-- c in front of a trimmed list: white space in front of nothing goes
unfoldable pub trim_cons : ℕ → List ℕ → List ℕ
unfolding is_whitespace
trim_cons c [] = elim (is_whitespace c) [ true ↦ [] | false ↦ c ∷ [] ]
trim_cons c (d ∷ r) = c ∷ d ∷ r

-- without the white space at the end
unfoldable pub trim_end : List ℕ → List ℕ
unfolding trim_cons
trim_end [] = []
trim_end (c ∷ r) = trim_cons c (trim_end r)

-- how many spaces right behind the slashes are not part of a comment's text: 0 or 1
unfoldable pub indent : List ℕ → ℕ
indent [] = 0
indent (c ∷ r) = elim (eqb c 0x20) [ true ↦ 1 | false ↦ 0 ]

-- a comment's text, from what follows its slashes
unfoldable pub comment_text : List ℕ → List ℕ
comment_text [] = []
comment_text (c ∷ r) = elim (eqb c 0x20) [ true ↦ r | false ↦ c ∷ r ]

-- what a backslash and e stand for: \" \\ \n \t
unfoldable pub escape : ℕ → Option ℕ
escape e =
    elim (eqb e 0x22) [
      | true ↦ Some 0x22
      | false ↦ elim (eqb e 0x5C) [ true ↦ Some 0x5C | false ↦ elim (eqb e 0x6E) [ true ↦ Some 10 | false ↦ elim (eqb e 0x74) [ true ↦ Some 9 | false ↦ None ] ] ]
    ]

-- what a character is inside a string: its end, a line's end, a backslash, or itself
pub data Inner : Type 0 where
  ends breaks escapes stands : Inner

-- what the character c is inside a string
unfoldable pub inner_of : ℕ → Inner
inner_of c = elim (eqb c 0x22) [ true ↦ ends | false ↦ elim (eqb c 10) [ true ↦ breaks | false ↦ elim (eqb c 0x5C) [ true ↦ escapes | false ↦ stands ] ] ]

-- a string behind its quote: its value, and how many characters it takes with the closing quote; or unterminated
pub data Inside : Type 0 where
  closed : List ℕ → ℕ → Inside
  unclosed : Inside

-- one more character of the value
unfoldable pub put : ℕ → Inside → Inside
put c (closed v k) = closed (c ∷ v) k
put c unclosed = unclosed

-- one more character of the text
unfoldable pub pass : Inside → Inside
pass (closed v k) = closed v (suc k)
pass unclosed = unclosed

-- `true`: a backslash stands before; where no escape follows it, it stands for itself
unfoldable pub inside : Bool → List ℕ → Inside
unfolding escape inner_of put pass
inside b [] = unclosed
inside false (c ∷ r) = elim (inner_of c) [
  | ends ↦ closed [] 1
  | breaks ↦ unclosed
  | escapes ↦ pass (inside true r)
  | stands ↦ put c (pass (inside false r))
]
inside true (e ∷ r) = elim (escape e) [
  | Some v ↦ put v (pass (inside false r))
  | None ↦ elim (eqb e 10) [ true ↦ unclosed | false ↦ put 0x5C (put e (pass (inside false r))) ]
]

-- what the characters between a string's quotes stand for
unfoldable pub unescape : List ℕ → List ℕ
unfolding inside
unescape cs = elim (inside false (cs ++ 0x22 ∷ [])) [ closed v n ↦ v | unclosed ↦ [] ]

-- what stands at the front of a text: white space; or a token, with its bytes, the bytes before and behind its text,
-- and how many characters follow its first
pub data Step : Type 0 where
  gap : Step
  tok : TokenKind → ℕ → ℕ → ℕ → ℕ → Step

-- a word
unfoldable pub word_step : ℕ → List ℕ → Step
unfolding run sizes is_word_continue
word_step c r = let w = run is_word_continue r in tok (word (c ∷ w)) (size c + sizes w) 0 0 (length w)

-- a number
unfoldable pub number_step : ℕ → List ℕ → Step
unfolding run sizes is_ascii_digit
number_step c r = let w = run is_ascii_digit r in tok (number (c ∷ w)) (size c + sizes w) 0 0 (length w)

-- behind a double quote: a string, or the rest of the line, trimmed
unfoldable pub string_step : List ℕ → Step
unfolding inside sizes line trim_end
string_step r =
    elim (inside false r) [
      | closed v n ↦ tok (str v) (1 + sizes (take n r)) 1 1 n
      | unclosed ↦ let l = line r in tok unterminated_string (1 + sizes (trim_end l)) 0 0 (length l)
    ]

-- behind a quote: any character but line feed, and a quote; or the lone quote
unfoldable pub quoted_step : List ℕ → Step
unfolding size
quoted_step [] = tok unterminated_quote 1 0 0 0
quoted_step (x ∷ []) = tok unterminated_quote 1 0 0 0
quoted_step (x ∷ q ∷ r) =
    elim (not (eqb x 10) && eqb q 0x27) [ true ↦ tok (quoted x) (2 + size x) 0 0 2 | false ↦ tok unterminated_quote 1 0 0 0 ]

-- behind two slashes: a comment up to the line's end, trimmed
unfoldable pub comment_step : List ℕ → Step
unfolding line trim_end sizes indent comment_text
comment_step r = let l = line r in let t = trim_end l in tok (comment (comment_text t)) (2 + sizes t) (2 + indent t) 0 (suc (length l))

-- behind a slash: a comment, or the slash alone
unfoldable pub slash_step : List ℕ → Step
unfolding comment_step
slash_step [] = tok (sign 0x2F) 1 0 0 0
slash_step (d ∷ r) = elim (eqb d 0x2F) [ true ↦ comment_step r | false ↦ tok (sign 0x2F) 1 0 0 0 ]

-- a character of no class
unfoldable pub other_step : ℕ → List ℕ → Step
unfolding size word_step string_step quoted_step slash_step
other_step c r =
    elim (eqb c 0x5F) [
      | true ↦ word_step c r
      | false ↦ elim (eqb c 0x22) [
        | true ↦ string_step r
        | false ↦ elim (eqb c 0x27) [ true ↦ quoted_step r | false ↦ elim (eqb c 0x2F) [ true ↦ slash_step r | false ↦ tok (sign c) (size c) 0 0 0 ] ]
      ]
    ]

-- what stands at the front of c ∷ r
unfoldable pub step : ℕ → List ℕ → Step
unfolding class_of size word_step number_step other_step
step c r =
    elim (eqb c 10) [
      | true ↦ tok newline 1 0 0 0
      | false ↦ elim (class_of c) [
        | Space ↦ gap
        | Letter ↦ word_step c r
        | Digit ↦ number_step c r
        | Sign ↦ tok (sign c) (size c) 0 0 0
        | Other ↦ other_step c r
      ]
    ]

-- a token of w bytes at the place o, with a bytes before its text and b behind it
abbrev pub token_at : ℕ → TokenKind → ℕ → ℕ → ℕ → Token Span
token_at o t w a b = record { kind = t; place = span o (o + w); inner = span (o + a) (o + w - b) }

-- the token at the place o, if a token stands there, before those that follow; `next n` goes on with n characters passed over
unfoldable pub emit : ℕ → Step → (ℕ → List (Token Span)) → List (Token Span)
emit o gap next = next 0
emit o (tok t w a b n) next = token_at o t w a b ∷ next n

-- the tokens from the place o on, the first k characters of the list passed over; a line feed of no length ends them
unfoldable pub tokens_from : ℕ → ℕ → List ℕ → List (Token Span)
unfolding step size emit
tokens_from k o [] = record { kind = newline; place = span o o; inner = span o o } ∷ []
tokens_from (suc k) o (c ∷ r) = tokens_from k (o + size c) r
tokens_from zero o (c ∷ r) = emit o (step c r) (λ n. tokens_from n (o + size c) r)

-- the tokens of a text of code points
unfoldable pub tokens : List ℕ → List (Token Span)
unfolding tokens_from
tokens cs = tokens_from 0 0 cs
