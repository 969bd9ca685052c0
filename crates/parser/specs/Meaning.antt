-- What a line of the parser means: its tokens, seen through the views of language/specs/Lines.antt.
use Rattle.std.specs.Prelude.{ℕ, ◌+◌, ◌-◌, ◌<◌, Bool, true, false, cond, List, [], ◌∷◌, ◌≡◌, eqb, length, get_or, take, drop, Err, Option, None, Some}
use Rattle.lexer.specs.Tokens.{TokenKind, word, number, quoted, str, sign, comment, newline, unterminated_string, unterminated_quote, Span, span, Token}
use Rattle.lexer.specs.Words.{kind_number, token_value}
use Rattle.machine.specs.declared.Kind.TheVariants.{Transducer}
use Rattle.machine.specs.declared.BitOrder.TheVariants.{Lsb}
use Rattle.language.specs.Machine.{Located}
use Rattle.language.specs.Parser.{is_sign}
use Rattle.language.specs.Lines.{RawSymbol, raw_blank, RawDecoder, raw_word, raw_unary, raw_binary, RawTransition, Text, Item, machine_item, input_item, kind_item, output_item, tapes_item, states_item, final_item, input_alphabet_item, tape_alphabet_item, blank_item, start_item, transition_item, Line, blank_line, comment_line, item_line, error_line, state_in, symbol_in, write_in, direction_in, string_in, number_in, word_in, kinds, outputs, orders, word_output, unary_output, binary_output, Ending, line_feed, goes_by, remark, ending_of, lines, covering}
use Rattle.parser.specs.Lines.{Answer, Empty, Comment, Read, code_number, line, line_end}
use Rattle.tokens.specs.declared.Token.{Token as Words}
use Rattle.tokens.specs.View.{words_of}
use Rattle.parser.specs.declared.Parts.{Parts}
use Rattle.parser.specs.declared.ItemKind.{ItemKind}
use Rattle.parser.specs.declared.ItemKind.TheVariants.{Machine, Kind, Input, Output, Tapes, States, InputAlphabet, TapeAlphabet, Blank as BlankSymbol, Start, Final, Transition}
use Rattle.parser.specs.declared.Item.{Item as Found}

-- a token as its four words
unfoldable pub token_of : Token Span → Words
unfolding kind_number token_value
token_of t = words_of t

-- what stands behind the last token
abbrev pub nothing : Token Span
nothing = record { kind = newline; place = span 0 0; inner = span 0 0 }

-- the token at an index
abbrev pub at : List (Token Span) → ℕ → Token Span
at ts i = get_or ts i nothing

-- the tokens from the index i to before j
abbrev pub between : List (Token Span) → ℕ → ℕ → List (Token Span)
between ts i j = take (j - i) (drop i ts)

-- what an option holds; d if it is none
abbrev pub or_else : {A : Type 0} → A → Option A → A
or_else d None = d
or_else d (Some a) = a

-- what a view says of a token, with the token's place; d if it says nothing
abbrev pub located : {A : Type 0} → (TokenKind → Option A) → A → Token Span → Located Span A
located view d t = record { value = or_else d (view t.kind); place = t.place }

-- a token in front of what a view says of others
unfoldable pub seen_on : {A : Type 0} → Option A → Span → List (Located Span A) → List (Located Span A)
seen_on None p l = l
seen_on (Some a) p l = record { value = a; place = p } ∷ l

-- what a view says of some tokens, without those of which it says nothing
unfoldable pub seen : {A : Type 0} → (TokenKind → Option A) → List (Token Span) → List (Located Span A)
unfolding seen_on
seen view [] = []
seen view (t ∷ ts) = seen_on (view t.kind) t.place (seen view ts)

-- a string's token: its place, its value and the place of that
abbrev pub text_of : Token Span → Text Span
text_of t = record { value = record { value = or_else [] (string_in t.kind); place = t.inner }; place = t.place }

-- ---- what a rule reads

-- what a token is where read entries are due: `{`, `}`, a symbol, or none of these
pub data ReadPart : Type 0 where
  opens closes passes : ReadPart
  reads : RawSymbol → ReadPart

-- what a token is among read sets
unfoldable pub read_part : TokenKind → ReadPart
unfolding is_sign symbol_in
read_part k = elim (is_sign 0x7B k) [
  | Some _ ↦ opens
  | None ↦ elim (is_sign 0x7D k) [ Some _ ↦ closes | None ↦ elim (symbol_in k) [ Some s ↦ reads s | None ↦ passes ] ]
]

-- one more symbol of the set that is open
unfoldable pub joins : {A : Type 0} → A → List (List A) → List (List A)
joins a [] = (a ∷ []) ∷ []
joins a (l ∷ ls) = (a ∷ l) ∷ ls

-- a token in front of read sets: `free` are those behind it where no set is open, `held`
-- those where one is, whose rest is the first
unfoldable pub outside : ReadPart → Span → List (List (Located Span RawSymbol)) → List (List (Located Span RawSymbol)) → List (List (Located Span RawSymbol))
outside opens p free held = held
outside closes p free held = free
outside passes p free held = free
outside (reads s) p free held = (record { value = s; place = p } ∷ []) ∷ free

-- a token inside a set that is open: the sets behind it, that set first
unfoldable pub inside : ReadPart → Span → List (List (Located Span RawSymbol)) → List (List (Located Span RawSymbol)) → List (List (Located Span RawSymbol))
unfolding joins
inside opens p free held = held
inside closes p free held = [] ∷ free
inside passes p free held = held
inside (reads s) p free held = joins (record { value = s; place = p }) held

-- the read sets of some tokens: a symbol alone is a set of one; `true`: a set is open, and its rest is the first
unfoldable pub read_sets : Bool → List (Token Span) → List (List (Located Span RawSymbol))
unfolding read_part outside inside
read_sets b [] = []
read_sets false (t ∷ ts) = outside (read_part t.kind) t.place (read_sets false ts) (read_sets true ts)
read_sets true (t ∷ ts) = inside (read_part t.kind) t.place (read_sets false ts) (read_sets true ts)

-- ---- items and lines

-- the output at an index
unfoldable pub decoder_at : List (Token Span) → ℕ → RawDecoder
decoder_at ts i = elim (located (word_in outputs) word_output (at ts i)).value [
  | word_output ↦ raw_word
  | unary_output ↦ raw_unary (located symbol_in raw_blank (at ts (i + 1))).value
  | binary_output ↦ raw_binary (located (word_in orders) Lsb (at ts (i + 1))).value
]

-- a rule by its parts, where j is the index behind it
unfoldable pub rule_of : List (Token Span) → Parts → ℕ → RawTransition Span
unfolding seen read_sets
rule_of ts q j = record {
  from = located state_in [] (at ts q.from);
  read = read_sets false (between ts q.read q.to);
  to = located state_in [] (at ts q.to);
  write = seen write_in (between ts q.write q.dir);
  dir = seen direction_in (between ts q.dir j);
}

-- an item of a kind, whose value stands from the index i to before j
unfoldable pub item_means : List (Token Span) → ItemKind → ℕ → ℕ → Parts → Item Span
unfolding seen decoder_at rule_of
item_means ts Machine i j q = machine_item (text_of (at ts i))
item_means ts Kind i j q = kind_item (located (word_in kinds) Transducer (at ts i)).value
item_means ts Input i j q = input_item (text_of (at ts i))
item_means ts Output i j q = output_item (decoder_at ts i)
item_means ts Tapes i j q = tapes_item (located number_in 0 (at ts i))
item_means ts States i j q = states_item (seen state_in (between ts i j))
item_means ts InputAlphabet i j q = input_alphabet_item (seen symbol_in (between ts i j))
item_means ts TapeAlphabet i j q = tape_alphabet_item (seen symbol_in (between ts i j))
item_means ts BlankSymbol i j q = blank_item (located symbol_in raw_blank (at ts i)).value
item_means ts Start i j q = start_item (located state_in [] (at ts i))
item_means ts Final i j q = final_item (seen state_in (between ts i j))
item_means ts Transition i j q = transition_item (rule_of ts q j)

-- the text of a comment
unfoldable pub remark_of : Ending → List ℕ
remark_of line_feed = []
remark_of goes_by = []
remark_of (remark s) = s

-- a comment with the place of its text
abbrev pub comment_of : Token Span → Located Span (List ℕ)
comment_of t = record { value = remark_of (ending_of t.kind); place = t.inner }

-- the comment of an item: at the index j, where the line's end is another
unfoldable pub own_comment : List (Token Span) → ℕ → ℕ → Option (Located Span (List ℕ))
unfolding remark_of
own_comment ts j n = cond (eqb n j) None (Some (comment_of (at ts j)))

-- a line of the parser, over the tokens that it was read from
unfoldable pub line_means : List (Token Span) → Answer → Line Span
unfolding item_means own_comment remark_of
line_means ts Empty = blank_line
line_means ts (Comment i) = comment_line (comment_of (at ts i))
line_means ts (Read r) = item_line (item_means ts r.kind r.value r.end r.parts) r.span (own_comment ts r.end r.newline)
line_means ts (Err bad) = error_line (code_number bad.code) bad.span

-- the counts of a rule's parts are the lengths of its lists
pub record Counted (ts : List (Token Span)) (r : Found) : Type 0 where
  pub reads : r.parts.reads ≡ length (rule_of ts r.parts r.end).read
  pub writes : r.parts.writes ≡ length (rule_of ts r.parts r.end).write
  pub dirs : r.parts.dirs ≡ length (rule_of ts r.parts r.end).dir

-- the counts of the parts of an item of a kind are those of its lists: a rule alone has parts
abbrev pub CountedAs : List (Token Span) → ItemKind → Found → Type 0
CountedAs ts Machine r = Unit {0}
CountedAs ts Kind r = Unit {0}
CountedAs ts Input r = Unit {0}
CountedAs ts Output r = Unit {0}
CountedAs ts Tapes r = Unit {0}
CountedAs ts States r = Unit {0}
CountedAs ts InputAlphabet r = Unit {0}
CountedAs ts TapeAlphabet r = Unit {0}
CountedAs ts BlankSymbol r = Unit {0}
CountedAs ts Start r = Unit {0}
CountedAs ts Final r = Unit {0}
CountedAs ts Transition r = Counted ts r

-- the counts of the parts of a line are those of its lists
abbrev pub LineCounted : List (Token Span) → Answer → Type 0
LineCounted ts Empty = Unit {0}
LineCounted ts (Comment i) = Unit {0}
LineCounted ts (Read r) = CountedAs ts r.kind r
LineCounted ts (Err bad) = Unit {0}

-- ---- what the lexer's tokens have

-- a word of one character is a code point, and a number is as long as it has digits
unfoldable pub SoundAs : TokenKind → Span → Type 0
SoundAs (word []) p = Unit {0}
SoundAs (word (c ∷ [])) p = c < 0x110000
SoundAs (word (c ∷ d ∷ w)) p = Unit {0}
SoundAs (number w) p = p.end ≡ p.start + length w
SoundAs (quoted c) p = Unit {0}
SoundAs (str s) p = Unit {0}
SoundAs (sign c) p = Unit {0}
SoundAs (comment s) p = Unit {0}
SoundAs newline p = Unit {0}
SoundAs unterminated_string p = Unit {0}
SoundAs unterminated_quote p = Unit {0}

-- a token is as the lexer makes it
abbrev pub Sound : Token Span → Type 0
Sound t = SoundAs t.kind t.place

-- a line feed ends the tokens and follows each comment
abbrev pub Closed : Ending → List (Token Span) → Type 0
Closed line_feed ts = Unit {0}
Closed goes_by [] = ⊥
Closed goes_by (t ∷ ts) = Unit {0}
Closed (remark s) [] = ⊥
Closed (remark s) (t ∷ ts) = ending_of t.kind ≡ line_feed

-- a token and those behind it are as the lexer makes them
pub record Lexed (t : Token Span) (ts : List (Token Span)) : Type 0 where
  pub sound : Sound t
  pub closed : Closed (ending_of t.kind) ts

-- all tokens of a list are as the lexer makes them
abbrev pub AllLexed : List (Token Span) → Type 0
AllLexed [] = Unit {0}
AllLexed (t ∷ ts) = Lexed t ts × AllLexed ts

-- ---- the statement

-- the line that begins at the index i of the row means the first line of the tokens from there on,
-- and the others begin behind its line feed
pub record LineAt (ts : List (Token Span)) (ws : List Words) (i : ℕ) : Type 0 where
  pub means : lines covering (drop i ts) ≡ line_means ts (line ws i) ∷ lines covering (drop (line_end ws i + 1) ts)
  pub counted : LineCounted ts (line ws i)
  pub within : line_end ws i < length ts
