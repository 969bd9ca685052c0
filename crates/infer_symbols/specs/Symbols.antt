-- The symbols of a row with entries: the blank, Σ and Γ.
use Rattle.std.specs.Prelude.{ℕ, ◌+◌, ◌-◌, Bool, true, false, cond, not, ◌||◌, List, [], ◌∷◌, ◌++◌, map, eqb, ltb, length, take, drop}
use Rattle.tokens.specs.declared.Token.{Token}
use Rattle.tokens.specs.View.{token_in}
use Rattle.parser.specs.Row.{peek}
use Rattle.parser.specs.Views.{is_symbol}
use Rattle.assembler.specs.Entries.{Entry}
use Rattle.sheet.specs.Rules.{resolve}
use Rattle.infer_symbols.specs.declared.glyphs.Walk.{Walk}
use Rattle.infer_symbols.specs.declared.glyphs.Walk.TheVariants.{Outside, Open, Behind}
use Rattle.lexer.specs.KindWords as kinds
use Rattle.assembler.specs.EntryNumbers as entry

-- the tokens from the index i to before j
abbrev pub range : List Token → ℕ → ℕ → List Token
range ts i j = take (j - i) (drop i ts)

-- the index behind a comma at the index i; i itself where none stands there
unfoldable pub past_comma : List Token → ℕ → ℕ
past_comma ts i = cond (eqb (peek ts i).kind kinds.comma) (i + 1) i

-- a quoted character and a comma stand from the index i on in a row of words
abbrev pub quoted_pair : List ℕ → ℕ → Bool
quoted_pair w i = cond (eqb (token_in w i).kind kinds.quoted) (eqb (token_in w (i + 1)).kind kinds.comma) false

-- the blank: U+2423 unless declared, by the line at d; `blank = _` gives U+2423
unfoldable pub blank_of : List Token → ℕ → ℕ
unfolding resolve
blank_of ts d = cond (ltb d (length ts)) (resolve 0x2423 (peek ts (d + entry.value))) 0x2423

-- the symbols among tokens
unfoldable pub symbols : List Token → List Token
unfolding is_symbol
symbols [] = []
symbols (t ∷ ts) = cond (is_symbol t) (t ∷ []) [] ++ symbols ts

-- a symbol that differs in kind or value from the last one
unfoldable pub is_new : Token → Token → Bool
unfolding is_symbol
is_new last t = cond (is_symbol t) (not (eqb t.kind last.kind) || not (eqb t.value last.value)) false

-- the tokens of the line at f behind its entry, which holds the index of its end
abbrev pub line_range : List Token → ℕ → List Token
line_range ts f = range ts (f + 1) (peek ts f).value

-- the symbols of the line at f
unfoldable pub symbols_in : List Token → ℕ → List Token
unfolding symbols
symbols_in ts f = symbols (line_range ts f)

-- a symbol that is the blank
unfoldable pub is_blank : ℕ → Token → Bool
unfolding is_symbol resolve
is_blank b t = cond (is_symbol t) (eqb (resolve b t) b) false

-- tokens among which the blank is
unfoldable pub has_blank : ℕ → List Token → Bool
unfolding is_blank
has_blank b [] = false
has_blank b (t ∷ ts) = elim (is_blank b t) [ true ↦ true | false ↦ has_blank b ts ]

-- ---- the characters of a rule in the order of first use

-- whether a symbol is the first of its read set, or stands alone
unfoldable pub takes : Walk → Token → Bool
unfolding is_symbol
takes s t = elim s [ Outside ↦ is_symbol t | Open ↦ is_symbol t | Behind ↦ false ]

-- behind a token of the read sets: `{` opens a set, `}` closes it, and the first symbol of an open set has the others skipped
unfoldable pub walked : Walk → Token → Walk
unfolding is_symbol
walked s t =
    cond (eqb t.kind kinds.l_brace) Open
    (cond (eqb t.kind kinds.r_brace) Outside
    (elim s [ Outside ↦ Outside | Open ↦ cond (is_symbol t) Behind Open | Behind ↦ Behind ]))

-- the first member of each read set
unfoldable pub firsts : Walk → List Token → List Token
unfolding takes walked
firsts s [] = []
firsts s (t ∷ ts) = cond (takes s t) (t ∷ []) [] ++ firsts (walked s t) ts

-- the further members of the set that is open, `seen` if its first was met
unfoldable pub others : Bool → List Token → List Token
unfolding symbols is_symbol
others seen [] = []
others seen (t ∷ ts) = elim (eqb t.kind kinds.r_brace) [ true ↦ [] | false ↦ cond seen (symbols (t ∷ [])) [] ++ others (cond seen true (is_symbol t)) ts ]

-- the further members of all sets, from the last set to the first
unfoldable pub further : List Token → List Token
unfolding others
further [] = []
further (t ∷ ts) = further ts ++ cond (eqb t.kind kinds.l_brace) (others false ts) []

-- no set is open
abbrev pub outside : Walk
outside = Outside

-- the first choice of each tape, what is written but `*`, the further choices: i to j is read, w to d written
abbrev pub part_symbols : List Token → ℕ → ℕ → ℕ → ℕ → List Token
part_symbols ts i j w d = firsts outside (range ts i j) ++ (symbols (range ts w d) ++ further (range ts i j))

-- a rule's symbols; its comma holds the indices of `to`, the writes and the moves
unfoldable pub rule_symbols : List Token → Entry → List Token
unfolding firsts symbols further
rule_symbols ts e = let q = peek ts (e.at + entry.parts) in cond (eqb e.first.kind entry.rule) (part_symbols ts (e.at + entry.read) q.start q.end q.value) []

-- the symbols of all rules among some lines
unfoldable pub rules_symbols : List Token → List Entry → List Token
unfolding rule_symbols
rules_symbols ts [] = []
rules_symbols ts (e ∷ es) = rule_symbols ts e ++ rules_symbols ts es

-- what symbols stand for
abbrev pub codes_of : ℕ → List Token → List ℕ
codes_of b ts = map (resolve b) ts
