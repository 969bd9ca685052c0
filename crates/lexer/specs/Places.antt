-- The text by places: what the code answers of it.
use Rattle.std.specs.Prelude.{ℕ, ◌+◌, ◌-◌, Bool, false, cond, ◌&&◌, List, [], ◌∷◌, Option, Some, None, eqb, leb, length, take, drop}
use Rattle.chars.specs.Utf8.{size, sizes, decode}
use Rattle.lexer.specs.Tokens.{Span, token_at, Step, gap, tok, step, line, trim_end, closed, unclosed, inside}
use Rattle.lexer.specs.Words.{kind_number, token_value}
use Rattle.lexer.specs.declared.Line.{Line}

-- the characters of a text from a place on
abbrev pub rest : List ℕ → ℕ → List ℕ
rest t at = decode (drop at t)

-- the first character is c
unfoldable pub starts_with : ℕ → List ℕ → Bool
starts_with c [] = false
starts_with c (x ∷ r) = eqb x c

-- the bytes of a text between two offsets; none where the offsets do not lie inside it
unfoldable pub part : List ℕ → ℕ → ℕ → List ℕ
part t a b = cond (leb a b && leb b (length t)) (take (b - a) (drop a t)) []

-- where the part of a text between two offsets begins: at the first offset, or at the text's
-- front where the offsets do not lie inside it
unfoldable pub part_start : List ℕ → ℕ → ℕ → ℕ
part_start t a b = cond (leb a b && leb b (length t)) a 0

-- the characters at a place
unfoldable pub chars_at : List ℕ → Span → List ℕ
unfolding decode
chars_at t p = decode (take (p.end - p.start) (drop p.start t))

-- the rest of a line that stands at a place
unfoldable pub line_at : ℕ → List ℕ → Line
unfolding sizes line trim_end
line_at at cs = record { trimmed = at + sizes (trim_end (line cs)); end = at + sizes (line cs) }

-- where a line that goes on with the characters cs at the place i ends without white space;
-- `last` where nothing but white space follows
abbrev pub trimmed_at : ℕ → ℕ → List ℕ → ℕ
trimmed_at last i [] = last
trimmed_at last i (c ∷ r) = i + sizes (c ∷ r)

-- a string's end, from its text at a place, if there is one; `true`: a backslash stands before
unfoldable pub string_end : Bool → ℕ → List ℕ → Option ℕ
unfolding sizes inside
string_end b at cs = elim (inside b cs) [ closed v n ↦ Some (at + sizes (take n cs)) | unclosed ↦ None ]

-- what stands at a place: a token, with its kind's number, its end, its value and the place to go on
-- from; white space up to a place; no character
pub data Found : Type 0 where
  Tok : ℕ → ℕ → ℕ → ℕ → Found
  Gap : ℕ → Found
  End : Found

-- what stands at the place o, where the characters r stand at the place n behind its first
unfoldable pub piece_of : ℕ → ℕ → List ℕ → Step → Found
unfolding sizes kind_number token_value
piece_of o n r gap = Gap n
piece_of o n r (tok t w a b k) = Tok (kind_number t) (o + w) (token_value (token_at o t w a b)) (n + sizes (take k r))

-- what the characters at the place o begin with
unfoldable pub piece : ℕ → List ℕ → Found
unfolding step size piece_of
piece o [] = End
piece o (c ∷ r) = piece_of o (o + size c) r (step c r)
