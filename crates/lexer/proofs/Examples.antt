-- Texts at which a lexer may go wrong, computed: the tokens with their places.
use mathlib.Core.Path.{◌≡◌, refl}
use Prim.Native.Nat.{ℕ}
use mathlib.Core.List.{List, [], ◌∷◌, map}
use Rattle.lexer.specs.Text.{codes}
use Rattle.lexer.specs.Tokens.{TokenKind, word, number, quoted, str, sign, comment, newline, unterminated_string, unterminated_quote, Span, span, Token, tokens}

-- a text and its tokens
record Sample : Type 0 where
  text : List ℕ
  all : List (Token Span)

-- a token from one offset to another; one whose text stands between two more
abbrev at : TokenKind → ℕ → ℕ → Token Span
at k a b = record { kind = k; place = span a b; inner = span a b }

abbrev around : TokenKind → ℕ → ℕ → ℕ → ℕ → Token Span
around k a b c d = record { kind = k; place = span a b; inner = span c d }

abbrev samples : List Sample
samples =
    record { text = []; all = at newline 0 0 ∷ [] } ∷
    -- a quote continues a word
    record { text = codes "a'b'"; all = at (word (codes "a'b'")) 0 4 ∷ at newline 4 4 ∷ [] } ∷
    record { text = codes "unary'x'"; all = at (word (codes "unary'x'")) 0 8 ∷ at newline 8 8 ∷ [] } ∷
    -- quoted characters and lone quotes
    record { text = codes "'''δ'δ'"; all = at (quoted 0x27) 0 3 ∷ at (word (codes "δ'δ'")) 3 9 ∷ at newline 9 9 ∷ [] } ∷
    record { text = codes "''x"; all = at unterminated_quote 0 1 ∷ at unterminated_quote 1 2 ∷ at (word (codes "x")) 2 3 ∷ at newline 3 3 ∷ [] } ∷
    record { text = codes "'\n'"; all = at unterminated_quote 0 1 ∷ at newline 1 2 ∷ at unterminated_quote 2 3 ∷ at newline 3 3 ∷ [] } ∷
    -- strings: the four escapes, any other backslash, and none that ends
    record { text = codes "\"\\\"\\\\\\n\\t\\x\""; all = around (str (codes "\"\\\n\t\\x")) 0 12 1 11 ∷ at newline 12 12 ∷ [] } ∷
    record { text = codes "\"a\\\" \n\""; all = at unterminated_string 0 4 ∷ at newline 5 6 ∷ at unterminated_string 6 7 ∷ at newline 7 7 ∷ [] } ∷
    -- white space: carriage return, U+0085, U+00A0
    record { text = codes "Q\r\n\u{85}Σ\u{a0}"; all = at (word (codes "Q")) 0 1 ∷ at newline 2 3 ∷ at (word (codes "Σ")) 5 7 ∷ at newline 9 9 ∷ [] } ∷
    -- comments: one space goes, the end is trimmed
    record { text = codes "//  c \n// \n/ /"; all = around (comment (codes " c")) 0 5 3 5 ∷ at newline 6 7 ∷ around (comment []) 7 9 9 9 ∷ at newline 10 11 ∷ at (sign 0x2F) 11 12 ∷ at (sign 0x2F) 13 14 ∷ at newline 14 14 ∷ [] } ∷
    -- a word does not start with a digit
    record { text = codes "0a1=_;"; all = at (number (codes "0")) 0 1 ∷ at (word (codes "a1")) 1 3 ∷ at (sign 0x3D) 3 4 ∷ at (word (codes "_")) 4 5 ∷ at (sign 0x3B) 5 6 ∷ at newline 6 6 ∷ [] } ∷
    []

sample_tokens : map (λ (s : Sample). tokens s.text) samples ≡ map (λ (s : Sample). s.all) samples
unfolding tokens
sample_tokens = refl
