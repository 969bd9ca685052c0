-- Comments where they belong, over the lines of a row with entries: header, trailing, and those that lead a rule.
use Rattle.std.specs.Prelude.{ℕ, ◌+◌, ◌-◌, ◌%◌, ◌^◌, true, false, cond, List, [], ◌∷◌, ◌++◌, length, take, drop, ◌==◌, nat_le, nat_lt, None, Some, is_some, unwrap_or}
use Rattle.tokens.specs.declared.Token.{Token}
use Rattle.diag.specs.declared.Span.{Span}
use Rattle.assembler.specs.Entries.{Entry, behind, entries}
use Rattle.sheet.specs.declared.comments.Pending.{Pending}
use Rattle.lexer.specs.KindWords as kinds
use Rattle.assembler.specs.EntryNumbers as entry
use Rattle.language.specs.Layout.{place_words}

-- the place of a comment's text: its value is how many bytes stand before it; the sum never
-- wraps, since the text stands inside the token
abbrev pub text_of : Token → Span
text_of t = record { start = (t.start + t.value) % 2 ^ 32; end = t.end }

-- a comment in words: the place of its text
abbrev pub text_words : Token → List ℕ
text_words t = place_words (text_of t)

-- the comments among tokens
unfoldable pub comments_in : List Token → List Token
comments_in [] = []
comments_in (t ∷ ts) = elim (t.kind == kinds.comment) [ true ↦ t ∷ comments_in ts | false ↦ comments_in ts ]

-- the comments from the index i to before j
unfoldable pub between : List Token → ℕ → ℕ → List Token
unfolding comments_in
between ts i j = comments_in (take (j - i) (drop i ts))

-- no comment is pending
abbrev pub nothing : Pending
nothing = record { from = None; block = 0 }

-- the index behind the line that begins with the token t at the index i
abbrev pub next : ℕ → Token → ℕ
next i t = i + 1 + behind i t

-- what is pending behind a line: nothing behind an item or a failed line; a comment goes on
-- with its block; a blank line ends the block
unfoldable pub passed : Pending → ℕ → Token → Pending
passed p i t =
    cond (nat_le entry.item t.kind) (record { from = Some (next i t); block = next i t })
    (cond (t.kind == kinds.comment) p (record { from = p.from; block = next i t }))

-- what is pending behind all lines
unfoldable pub passed_all : Pending → List Entry → Pending
unfolding passed
passed_all p [] = p
passed_all p (e ∷ es) = passed_all (passed p e.at e.first) es

-- where the comments that lead a rule begin: all pending if an item or failed line came
-- earlier, else only the block that touches it
unfoldable pub lead_from : Pending → ℕ
lead_from p = unwrap_or p.from p.block

-- where all that is pending begins: at the row's start if no item or failed line came earlier
abbrev pub begins : Pending → ℕ
begins p = unwrap_or p.from 0

-- the comments that a line puts into the header: before a declaration all pending and its own; before
-- the first rule those that do not lead it
unfoldable pub header_of : List Token → Pending → Token → List Token
unfolding between
header_of ts p t =
    cond (nat_lt t.kind entry.item) []
    (cond (nat_lt t.kind entry.rule) (between ts (begins p) t.value) (cond (t.kind == entry.rule) (cond (is_some p.from) [] (between ts 0 p.block)) []))

-- at the end the pending comments are header if no line held an item or failed
unfoldable pub header_from : List Token → Pending → List Entry → List Token
unfolding between header_of passed
header_from ts p [] = cond (is_some p.from) [] (between ts 0 (length ts))
header_from ts p (e ∷ es) = header_of ts p e.first ++ header_from ts (passed p e.at e.first) es

-- the header comments of a row
unfoldable pub header : List Token → List Token
unfolding header_from entries
header ts = header_from ts nothing (entries ts)

-- the comments that are pending at the end are trailing if a line held an item or failed
unfoldable pub trailing : List Token → List Token
unfolding passed_all entries between
trailing ts = let p = passed_all nothing (entries ts) in cond (is_some p.from) (between ts (begins p) (length ts)) []
