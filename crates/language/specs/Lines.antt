-- Paper 01, "parser.rs, lines": the tokens of a line become an item, or a diagnostic.
use Rattle.std.specs.Prelude.{ℕ, min, Bool, true, false, ◌||◌, not, eqb, Option, None, Some}
use mathlib.Core.List.{List, [], ◌∷◌, map}
use Rattle.lexer.specs.Text.{codes, same}
use Rattle.lexer.specs.Words.{value}
use Rattle.lexer.specs.Tokens.{TokenKind, word, number, quoted, str, sign, comment, newline, unterminated_string, unterminated_quote, Token, Span, span, tokens}
use Rattle.machine.specs.declared.Kind.{Kind}
use Rattle.machine.specs.declared.Kind.TheVariants.{Acceptor, Transducer, Enumerator, Beaver}
use Rattle.machine.specs.declared.BitOrder.{BitOrder}
use Rattle.machine.specs.declared.BitOrder.TheVariants.{Lsb, Msb}
use Rattle.language.specs.Machine.{Located, Dir, left, right, stay}
use Rattle.language.specs.Parser.{Result, ok, fail, Parser, ◌>>=◌, give, when, unexpected, is_sign, one, expect, opened, entries, single, tuple, set}

-- ---- what a line says

-- a symbol as written: the blank (`_` or bare `␣`) or a glyph
pub data RawSymbol : Type 0 where
  raw_blank : RawSymbol
  glyph : ℕ → RawSymbol

-- an output declaration as written
pub data RawDecoder : Type 0 where
  raw_word : RawDecoder
  raw_unary : RawSymbol → RawDecoder
  raw_binary : BitOrder → RawDecoder

-- a rule as written: for each tape the symbols of its read set, the symbol written (none for `*`), and the move
pub record RawTransition (P : Type 0) : Type 0 where
  pub from : Located P (List ℕ)
  pub read : List (List (Located P RawSymbol))
  pub to : Located P (List ℕ)
  pub write : List (Located P (Option RawSymbol))
  pub dir : List (Located P Dir)

-- a string: its place with the quotes, and its value with the place between them
abbrev pub Text : Type 0 → Type 0
Text P = Located P (Located P (List ℕ))

-- a declaration or a rule
pub data Item (P : Type 0) : Type 0 where
  machine_item input_item : Text P → Item P
  kind_item : Kind → Item P
  output_item : RawDecoder → Item P
  tapes_item : Located P ℕ → Item P
  states_item final_item : List (Located P (List ℕ)) → Item P
  input_alphabet_item tape_alphabet_item : List (Located P RawSymbol) → Item P
  blank_item : RawSymbol → Item P
  start_item : Located P (List ℕ) → Item P
  transition_item : RawTransition P → Item P

-- a line: nothing; a comment alone; an item with its place (without its comment) and its comment; a failure's code and place
pub data Line (P : Type 0) : Type 0 where
  blank_line : Line P
  comment_line : Located P (List ℕ) → Line P
  item_line : Item P → P → Option (Located P (List ℕ)) → Line P
  error_line : ℕ → P → Line P

-- ---- what one token says

-- a state's name: a word but `_`
unfoldable pub state_in : TokenKind → Option (List ℕ)
state_in (word w) = when (not (same w (codes "_"))) w
state_in _ = None

-- a word or number of one character
unfoldable pub one_character : {A : Type 0} → (ℕ → A) → List ℕ → Option A
one_character f (c ∷ []) = Some (f c)
one_character f _ = None

-- a bare character: c stands for the blank, all others for themselves
unfoldable pub bare : ℕ → ℕ → RawSymbol
bare c d = elim (eqb d c) [ true ↦ raw_blank | false ↦ glyph d ]

-- ( ) { } , =
unfoldable pub bracket : ℕ → Bool
bracket c = eqb c 0x28 || eqb c 0x29 || eqb c 0x7B || eqb c 0x7D || eqb c 0x2C || eqb c 0x3D

-- a symbol: a quoted character, a word or number of one character, or a sign that is no bracket, `*` or `;`; `_` and bare `␣` are the blank
unfoldable pub symbol_in : TokenKind → Option RawSymbol
unfolding one_character bare bracket
symbol_in (word w) = one_character (bare 0x5F) w
symbol_in (number w) = one_character glyph w
symbol_in (quoted c) = Some (glyph c)
symbol_in (sign c) = when (not (bracket c || eqb c 0x2A || eqb c 0x3B)) (bare 0x2423 c)
symbol_in _ = None

-- what is written: bare `*` for the symbol read (none), or a symbol
unfoldable pub write_in : TokenKind → Option (Option RawSymbol)
unfolding is_sign symbol_in
write_in k = elim (is_sign 0x2A k) [ Some b ↦ Some None | None ↦ elim (symbol_in k) [ Some s ↦ Some (Some s) | None ↦ None ] ]

-- L, R or N
unfoldable pub from_char : ℕ → Option Dir
from_char c = elim (eqb c 0x4C) [ true ↦ Some left | false ↦ elim (eqb c 0x52) [ true ↦ Some right | false ↦ when (eqb c 0x4E) stay ] ]

-- a direction: a word or quoted character that is L, R or N
unfoldable pub direction_in : TokenKind → Option Dir
unfolding from_char
direction_in (word (c ∷ [])) = from_char c
direction_in (quoted c) = from_char c
direction_in _ = None

-- the code where a direction is due: E008 for a word, number, quoted character, `*` or other sign
unfoldable pub not_direction : TokenKind → ℕ
unfolding bracket
not_direction (word w) = 8
not_direction (number w) = 8
not_direction (quoted c) = 8
not_direction (sign c) = elim (bracket c) [ true ↦ 1 | false ↦ 8 ]
not_direction unterminated_string = 2
not_direction _ = 1

-- a string's value
unfoldable pub string_in : TokenKind → Option (List ℕ)
string_in (str s) = Some s
string_in _ = None

-- a number's value; digits above 64 bits count as 18446744073709551615
unfoldable pub number_in : TokenKind → Option ℕ
unfolding value
number_in (number w) = Some (min (value w) 18446744073709551615)
number_in _ = None

-- what a table of words, each with its meaning, says that a word means
unfoldable pub meaning_of : {A : Type 0} → List (List ℕ × A) → List ℕ → Option A
meaning_of [] w = None
meaning_of (x ∷ l) w = elim (same x.0 w) [ true ↦ Some x.1 | false ↦ meaning_of l w ]

-- a word of a table
unfoldable pub word_in : {A : Type 0} → List (List ℕ × A) → TokenKind → Option A
unfolding meaning_of
word_in l (word w) = meaning_of l w
word_in l _ = None

-- what a line begins with: a declaration's name, or a rule's δ
pub data Keyword : Type 0 where
  machine_word kind_word input_word output_word tapes_word states_word sigma_word gamma_word blank_word start_word final_word delta_word : Keyword

-- the words that a line begins with, in both spellings
abbrev pub keywords : List (List ℕ × Keyword)
keywords =
    (codes "machine", machine_word) ∷ (codes "kind", kind_word) ∷ (codes "input", input_word) ∷ (codes "output", output_word) ∷
    (codes "tapes", tapes_word) ∷ (codes "Q", states_word) ∷ (codes "Σ", sigma_word) ∷ (codes "Sigma", sigma_word) ∷
    (codes "Γ", gamma_word) ∷ (codes "Gamma", gamma_word) ∷ (codes "blank", blank_word) ∷ (codes "start", start_word) ∷
    (codes "F", final_word) ∷ (codes "δ", delta_word) ∷ (codes "delta", delta_word) ∷ []

-- the kinds of machine
abbrev pub kinds : List (List ℕ × Kind)
kinds = (codes "acceptor", Acceptor) ∷ (codes "transducer", Transducer) ∷ (codes "enumerator", Enumerator) ∷ (codes "beaver", Beaver) ∷ []

-- how an output declaration begins
pub data OutputWord : Type 0 where
  word_output unary_output binary_output : OutputWord

-- the outputs
abbrev pub outputs : List (List ℕ × OutputWord)
outputs = (codes "word", word_output) ∷ (codes "unary", unary_output) ∷ (codes "binary", binary_output) ∷ []

-- the orders of bits
abbrev pub orders : List (List ℕ × BitOrder)
orders = (codes "lsb", Lsb) ∷ (codes "msb", Msb) ∷ []

-- ---- items

-- the token t taken for a string, or refused
unfoldable pub string_taken : {P : Type 0} → Option (List ℕ) → Token P → Parser P (Text P)
unfolding unexpected
string_taken (Some s) t ts = ok (record { value = record { value = s; place = t.inner }; place = t.place }) ts
string_taken None t ts = fail (unexpected t.kind) t.place

-- `stop` is the place of what ends the line's tokens: its comment or its line feed
module _ {P : Type 0} (stop : P) where
  -- a string in double quotes
  unfoldable pub string : Parser P (Text P)
  unfolding string_taken string_in
  string [] = fail 1 stop
  string (t ∷ ts) = string_taken (string_in t.kind) t ts

  -- a number
  unfoldable pub numeral : Parser P (Located P ℕ)
  unfolding one number_in unexpected
  numeral = one stop number_in unexpected

  -- a word of a table
  unfoldable pub choice : {A : Type 0} → List (List ℕ × A) → Parser P (Located P A)
  unfolding one word_in unexpected
  choice l = one stop (word_in l) unexpected

  -- a state's name
  unfoldable pub state : Parser P (Located P (List ℕ))
  unfolding one state_in unexpected
  state = one stop state_in unexpected

  -- a symbol
  unfoldable pub symbol : Parser P (Located P RawSymbol)
  unfolding one symbol_in unexpected
  symbol = one stop symbol_in unexpected

  -- a direction
  unfoldable pub direction : Parser P (Located P Dir)
  unfolding one direction_in not_direction
  direction = one stop direction_in not_direction

  -- a symbol, or a set of symbols that is not empty
  unfoldable pub read_entry : Parser P (List (Located P RawSymbol))
  unfolding opened entries single symbol
  read_entry = opened stop 0x7B (entries stop symbol 0x7D) (single stop symbol)

  -- a symbol, or `*`
  unfoldable pub write_entry : Parser P (Located P (Option RawSymbol))
  unfolding one write_in unexpected
  write_entry = one stop write_in unexpected

  -- everything behind `δ`: (FROM, READ) = (TO, WRITE, MOVE)
  unfoldable pub transition : Parser P (RawTransition P)
  unfolding ◌>>=◌ expect state tuple read_entry write_entry direction
  transition = do
    _ ← expect stop 0x28
    from ← state
    _ ← expect stop 0x2C
    read ← tuple stop read_entry
    _ ← expect stop 0x29
    _ ← expect stop 0x3D
    _ ← expect stop 0x28
    to ← state
    _ ← expect stop 0x2C
    write ← tuple stop write_entry
    _ ← expect stop 0x2C
    dir ← tuple stop direction
    _ ← expect stop 0x29
    give (record { from = from; read = read; to = to; write = write; dir = dir })

  -- everything behind `output`
  unfoldable pub output : OutputWord → Parser P RawDecoder
  unfolding ◌>>=◌ symbol choice
  output word_output = give raw_word
  output unary_output = symbol >>= λ s. give (raw_unary s.value)
  output binary_output = choice orders >>= λ o. give (raw_binary o.value)

  -- what a keyword is followed by; some take `=` first
  unfoldable pub item_of : Keyword → Parser P (Item P)
  unfolding ◌>>=◌ expect set string numeral choice state symbol output transition
  item_of machine_word = string >>= λ s. give (machine_item s)
  item_of kind_word = choice kinds >>= λ k. give (kind_item k.value)
  item_of input_word = string >>= λ s. give (input_item s)
  item_of output_word = choice outputs >>= λ w. output w.value >>= λ o. give (output_item o)
  item_of tapes_word = expect stop 0x3D >>= λ _. numeral >>= λ n. give (tapes_item n)
  item_of states_word = expect stop 0x3D >>= λ _. set stop state >>= λ q. give (states_item q)
  item_of sigma_word = expect stop 0x3D >>= λ _. set stop symbol >>= λ l. give (input_alphabet_item l)
  item_of gamma_word = expect stop 0x3D >>= λ _. set stop symbol >>= λ l. give (tape_alphabet_item l)
  item_of blank_word = expect stop 0x3D >>= λ _. symbol >>= λ s. give (blank_item s.value)
  item_of start_word = expect stop 0x3D >>= λ _. state >>= λ q. give (start_item q)
  item_of final_word = expect stop 0x3D >>= λ _. set stop state >>= λ q. give (final_item q)
  item_of delta_word = transition >>= λ r. give (transition_item r)

  -- a keyword and what follows it
  unfoldable pub item : Parser P (Item P)
  unfolding ◌>>=◌ choice item_of
  item = choice keywords >>= λ k. item_of k.value

-- ---- lines

-- a line's tokens; the place of what ends them, its comment or its line feed; and the comment
pub record Row (P : Type 0) : Type 0 where
  pub body : List (Token P)
  pub stop : P
  pub comment : Option (Located P (List ℕ))

-- how a token ends a line's tokens: as a line feed, as a comment, or not at all
pub data Ending : Type 0 where
  line_feed goes_by : Ending
  remark : List ℕ → Ending

-- how a token of a kind ends them
unfoldable pub ending_of : TokenKind → Ending
ending_of newline = line_feed
ending_of (comment s) = remark s
ending_of _ = goes_by

-- a token in front of rows: it joins the first of them, opens a new one, or is its comment, behind which no token stands
unfoldable pub in_front : {P : Type 0} → Ending → Token P → List (Row P) → List (Row P)
in_front line_feed t rs = record { body = []; stop = t.place; comment = None } ∷ rs
in_front goes_by t [] = []
in_front goes_by t (r ∷ rs) = record { body = t ∷ r.body; stop = r.stop; comment = r.comment } ∷ rs
in_front (remark s) t [] = []
in_front (remark s) t (r ∷ rs) = record { body = []; stop = t.place; comment = Some (record { value = s; place = t.inner }) } ∷ rs

-- the rows of a list of tokens
unfoldable pub rows : {P : Type 0} → List (Token P) → List (Row P)
unfolding in_front ending_of
rows [] = []
rows (t ∷ ts) = in_front (ending_of t.kind) t (rows ts)

-- the place of a row's last token, p if it has none
unfoldable pub last_place : {P : Type 0} → P → List (Token P) → P
last_place p [] = p
last_place p (t ∷ ts) = last_place t.place ts

-- behind an item nothing may follow
unfoldable pub finished : {P : Type 0} → P → Option (Located P (List ℕ)) → Result P (Item P) → Line P
unfolding unexpected
finished p c (ok i []) = item_line i p c
finished p c (ok i (t ∷ ts)) = error_line (unexpected t.kind) t.place
finished p c (fail n q) = error_line n q

-- a row without tokens
unfoldable pub empty_line : {P : Type 0} → Option (Located P (List ℕ)) → Line P
empty_line None = blank_line
empty_line (Some c) = comment_line c

-- a row's line; `a ⋯ b` is the place from the start of a to the end of b
module _ {P : Type 0} (◌⋯◌ : P → P → P) where
  -- the line of a list of tokens, what ends them, and the comment
  unfoldable pub line_from : List (Token P) → P → Option (Located P (List ℕ)) → Line P
  unfolding empty_line finished last_place item
  line_from [] stop c = empty_line c
  line_from (t ∷ ts) stop c = finished (◌⋯◌ t.place (last_place t.place ts)) c (item stop (t ∷ ts))

  -- the line of a row
  unfoldable pub line_of : Row P → Line P
  unfolding line_from
  line_of r = line_from r.body r.stop r.comment

  -- the lines of a list of tokens
  unfoldable pub lines : List (Token P) → List (Line P)
  unfolding line_of rows
  lines ts = map line_of (rows ts)

-- from the start of one place to the end of another
abbrev pub covering : Span → Span → Span
covering a b = span a.start b.end

-- the lines of a text of code points
unfoldable pub read_lines : List ℕ → List (Line Span)
unfolding lines tokens
read_lines cs = lines covering (tokens cs)
