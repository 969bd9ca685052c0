-- How the lines of a row show the lines of the language: what the head, the inference and the sheet's sections ask of each.
use Rattle.parser.specs.Lines.{Read}
use mathlib.Core.Path.{◌≡◌}
use mathlib.Core.Bool.{Bool, true, false}
use mathlib.Core.List.{List, [], ◌∷◌, map}
use Rattle.std.specs.Prelude.{Option, None, Some, option_to_list}
use Prim.Native.Nat.{ℕ, suc, ◌+◌, ◌-◌, ◌≤◌, ◌<◌}
use lib.Dec.{eqb}
use lib.ListN.{length, take, drop}
use Rattle.diag.specs.declared.Span.{Span as Place}
use Rattle.lexer.specs.Tokens.{str, Token as Lexed}
use Rattle.lexer.proofs.Placed.{Placed, All}
use Rattle.tokens.specs.declared.Token.{Token}
use Rattle.parser.specs.declared.ItemKind.TheVariants.{Transition}
use Rattle.parser.specs.declared.Item.{Item as Found}
use Rattle.parser.specs.Row.{peek}
use Rattle.parser.specs.Views.{is_state, is_symbol}
use Rattle.parser.specs.Lines as P
use Rattle.parser.specs.Meaning.{token_of, at, item_means, AllLexed}
use Rattle.language.specs.Machine.{Located, Dir}
use Rattle.language.specs.Lines.{RawSymbol, RawTransition, Text, Item, machine_item, input_item, kind_item, output_item, tapes_item, states_item, final_item, input_alphabet_item, tape_alphabet_item, blank_item, start_item, transition_item, Line, blank_line, comment_line, item_line, error_line}
use Rattle.language.specs.Assembly as A
use Rattle.language.specs.Layout as L
use Rattle.assembler.specs.Rows.{place_of}
use Rattle.assembler.specs.Entries.{Entry, entry_at}
use Rattle.assembler.specs.Rules.{combinations}
use Rattle.assembler.specs.Finals.{names_of}
use Rattle.assembler.proofs.Means.{number}
use Rattle.assembler.proofs.FinalsMean.{NameIs, AllNames}
use Rattle.assembler.proofs.EntriesMean.{Lines}
use Rattle.sheet.specs.Comments.{text_words, between}
use Rattle.sheet.specs.Rules.{resolve, written, move_of, first_entry, sets_of, own_place, read_tokens}

-- two lists whose members correspond
pub data Both {A B : Type 0} (R : A → B → Type 0) : List A → List B → Type 0 where
  no_members : Both R [] []
  members : {a : A} {b : B} {l : List A} {m : List B} → R a b → Both R l m → Both R (a ∷ l) (b ∷ m)

-- a symbol's token
pub record SymbolShows (t : Token) (s : Located Place RawSymbol) : Type 0 where
  pub code : (b : ℕ) → resolve b t ≡ A.resolve b s.value
  pub place : L.place_words (place_of t) ≡ L.place_words s.place

-- what is written: a symbol, or `*`
pub record WriteShows (t : Token) (w : Located Place (Option RawSymbol)) : Type 0 where
  pub code : (b : ℕ) (r : Token) (s : RawSymbol) → resolve b r ≡ A.resolve b s → written b r t ≡ A.written b s w.value
  pub place : L.place_words (place_of t) ≡ L.place_words w.place

-- a direction
abbrev pub MoveShows : Token → Located Place Dir → Type 0
MoveShows t d = move_of t ≡ L.dir_number d.value

-- every second token from an index on
unfoldable pub every_second : {A : Type 0} → List Token → ℕ → List A → List Token
every_second ts i [] = []
every_second ts i (a ∷ l) = peek ts i ∷ every_second ts (i + 2) l

-- a rule whose reads, writes and moves are equal in number, and whose product is not cut off
pub record RuleShows (ts : List Token) (i : ℕ) (r : RawTransition Place) : Type 0 where
  pub from : L.place_words (place_of (peek ts (i + 2))) ≡ L.place_words r.from.place
  pub to : L.place_words (place_of (peek ts (peek ts (i + 3)).start)) ≡ L.place_words r.to.place
  pub read : Both (Both SymbolShows) (sets_of ts i) r.read
  pub write : Both WriteShows (every_second ts (first_entry ts (peek ts (i + 3)).end) r.write) r.write
  pub dir : Both MoveShows (every_second ts (first_entry ts (peek ts (i + 3)).value) r.dir) r.dir
  pub reads : (peek ts (i + 1)).start ≡ length r.read
  pub writes : length r.write ≡ length r.read
  pub dirs : length r.dir ≡ length r.read
  pub product : combinations (read_tokens ts i) ≡ A.combinations r.read

abbrev pub RuleOf : List Token → ℕ → Item Place → Type 0
RuleOf ts i (transition_item r) = RuleShows ts i r
RuleOf ts i (machine_item x) = Unit {0}
RuleOf ts i (kind_item x) = Unit {0}
RuleOf ts i (input_item x) = Unit {0}
RuleOf ts i (output_item x) = Unit {0}
RuleOf ts i (tapes_item x) = Unit {0}
RuleOf ts i (states_item x) = Unit {0}
RuleOf ts i (input_alphabet_item x) = Unit {0}
RuleOf ts i (tape_alphabet_item x) = Unit {0}
RuleOf ts i (blank_item x) = Unit {0}
RuleOf ts i (start_item x) = Unit {0}
RuleOf ts i (final_item x) = Unit {0}

-- ---- what the inference asks

-- the tokens from the index i to before j
abbrev pub range : List Token → ℕ → ℕ → List Token
range ts i j = take (j - i) (drop i ts)

-- a state's token
pub record StateShows (text : List ℕ) (t : Token) (n : Located Place (List ℕ)) : Type 0 where
  pub state : is_state t ≡ true
  pub name : NameIs text t n

-- a string's token
pub record TextShows (text : List ℕ) (t : Token) (x : Text Place) : Type 0 where
  pub token : Lexed Place
  pub placed : Placed text token
  pub spelled : token.kind ≡ str x.value.value
  pub inner : token.inner ≡ x.value.place
  pub place : token.place ≡ x.place
  pub words : t ≡ token_of token

-- a set of symbols among tokens
pub data SymbolsShow : List Token → List (Located Place RawSymbol) → Type 0 where
  no_symbols : SymbolsShow [] []
  no_symbol : {t : Token} {ts : List Token} {ss : List (Located Place RawSymbol)} → is_symbol t ≡ false → SymbolsShow ts ss → SymbolsShow (t ∷ ts) ss
  one_symbol : {t : Token} {ts : List Token} {s : Located Place RawSymbol} {ss : List (Located Place RawSymbol)} → is_symbol t ≡ true → SymbolShows t s → SymbolsShow ts ss
      → SymbolsShow (t ∷ ts) (s ∷ ss)

-- what is written, among tokens: `*` is no symbol
pub data WritesShow : List Token → List (Located Place (Option RawSymbol)) → Type 0 where
  no_writes : WritesShow [] []
  no_write : {t : Token} {ts : List Token} {ws : List (Located Place (Option RawSymbol))} → is_symbol t ≡ false → WritesShow ts ws → WritesShow (t ∷ ts) ws
  write_back : {t : Token} {ts : List Token} {p : Place} {ws : List (Located Place (Option RawSymbol))} → is_symbol t ≡ false → WritesShow ts ws
      → WritesShow (t ∷ ts) (record { value = None; place = p } ∷ ws)
  one-write : {t : Token} {ts : List Token} {s : RawSymbol} {p : Place} {ws : List (Located Place (Option RawSymbol))} → is_symbol t ≡ true → SymbolShows t (record { value = s; place = p })
      → WritesShow ts ws → WritesShow (t ∷ ts) (record { value = Some s; place = p } ∷ ws)

-- read sets among tokens: a symbol alone is a set of one; `true`: a set is open, and its rest is the first
pub data ReadsShow : Bool → List Token → List (List (Located Place RawSymbol)) → Type 0 where
  no_reads : ReadsShow false [] []
  no_read : {b : Bool} {t : Token} {ts : List Token} {ss : List (List (Located Place RawSymbol))} → eqb t.kind 6 ≡ false → eqb t.kind 7 ≡ false → is_symbol t ≡ false
      → ReadsShow b ts ss → ReadsShow b (t ∷ ts) ss
  opens : {t : Token} {ts : List Token} {ss : List (List (Located Place RawSymbol))} → eqb t.kind 6 ≡ true → ReadsShow true ts ss → ReadsShow false (t ∷ ts) ss
  closes : {t : Token} {ts : List Token} {ss : List (List (Located Place RawSymbol))} → eqb t.kind 6 ≡ false → eqb t.kind 7 ≡ true → ReadsShow false ts ss
      → ReadsShow true (t ∷ ts) ([] ∷ ss)
  alone : {t : Token} {ts : List Token} {s : Located Place RawSymbol} {ss : List (List (Located Place RawSymbol))} → eqb t.kind 6 ≡ false → eqb t.kind 7 ≡ false → is_symbol t ≡ true
      → SymbolShows t s → ReadsShow false ts ss → ReadsShow false (t ∷ ts) ((s ∷ []) ∷ ss)
  member : {t : Token} {ts : List Token} {s : Located Place RawSymbol} {l : List (Located Place RawSymbol)} {ss : List (List (Located Place RawSymbol))} → eqb t.kind 6 ≡ false
      → eqb t.kind 7 ≡ false → is_symbol t ≡ true → SymbolShows t s → ReadsShow true ts (l ∷ ss) → ReadsShow true (t ∷ ts) ((s ∷ l) ∷ ss)

-- a rule: its states, and its symbols among the tokens up to the next state, and from the writes to the moves
pub record MentionsShow (text : List ℕ) (ts : List Token) (i : ℕ) (r : RawTransition Place) : Type 0 where
  pub from : StateShows text (peek ts (i + 2)) r.from
  pub to : StateShows text (peek ts (peek ts (i + 3)).start) r.to
  pub reads : ReadsShow false (range ts (i + 4) (peek ts (i + 3)).start) r.read
  pub writes : WritesShow (range ts (peek ts (i + 3)).end (peek ts (i + 3)).value) r.write

-- what the tokens of the line at the index i say of its item; Σ, Γ: those from its entry to its line feed
abbrev pub Mentions : List ℕ → List Token → ℕ → Item Place → Type 0
Mentions text ts i (input_item x) = TextShows text (peek ts (i + 1)) x
Mentions text ts i (states_item q) = AllNames text ts (names_of ts i) q
Mentions text ts i (final_item q) = AllNames text ts (names_of ts i) q
Mentions text ts i (input_alphabet_item s) = SymbolsShow (range ts (i + 1) (peek ts i).value) s
Mentions text ts i (tape_alphabet_item s) = SymbolsShow (range ts (i + 1) (peek ts i).value) s
Mentions text ts i (blank_item s) = (b : ℕ) → resolve b (peek ts (i + 2)) ≡ A.resolve b s
Mentions text ts i (start_item x) = StateShows text (peek ts (i + 2)) x
Mentions text ts i (transition_item r) = MentionsShow text ts i r
Mentions text ts i (machine_item x) = Unit {0}
Mentions text ts i (kind_item x) = Unit {0}
Mentions text ts i (output_item x) = Unit {0}
Mentions text ts i (tapes_item x) = Unit {0}

-- ---- what the head asks
-- the tokens of the language from the line's first on, what the parser read there, and that the tokens behind the entry of a
-- declaration are as they were
pub record ItemParsed (text : List ℕ) (ts : List Token) (i : ℕ) (k : Item Place) : Type 0 where
  pub tokens : List (Lexed Place)
  pub found : Found
  pub read : P.line (map token_of tokens) 0 ≡ Read found
  pub means : item_means tokens found.kind found.value found.end found.parts ≡ k
  pub lexed : AllLexed tokens
  pub placed : All (Placed text) tokens
  pub low : found.end ≤ length tokens
  pub plain : (found.kind ≡ Transition → ⊥) → (r : ℕ) → suc r ≤ found.newline → peek ts (i + suc r) ≡ token_of (at tokens (suc r))

-- ---- lines
-- a comment alone, with its line feed
pub record CommentShows (ts : List Token) (i : ℕ) (c : Located Place (List ℕ)) : Type 0 where
  pub kind : (peek ts i).kind ≡ 12
  pub text : text_words (peek ts i) ≡ L.located_words c
  pub feed : (peek ts (i + 1)).kind ≡ 13

-- an item: its place, its line feed, its own comment, and what is asked of a rule
pub record ItemShows (text : List ℕ) (ts : List Token) (i : ℕ) (k : Item Place) (p : Place) (c : Option (Located Place (List ℕ))) : Type 0 where
  pub kind : (peek ts i).kind ≡ 16 + number k
  pub low : i < (peek ts i).value
  pub free : (j : ℕ) → i < j → j < (peek ts i).value → eqb (peek ts j).kind 13 ≡ false
  pub feed : (peek ts (peek ts i).value).kind ≡ 13
  pub within : (peek ts i).value < length ts
  pub line : L.place_words (place_of (peek ts i)) ≡ L.place_words p
  pub comment : L.flat text_words (between ts (i + 1) (peek ts i).value) ≡ L.flat L.located_words (option_to_list c)
  pub own : L.place_words (own_place ts i) ≡ L.place_words (L.place_or_none c)
  pub rule : RuleOf ts i k
  pub mentions : Mentions text ts i k
  pub parsed : ItemParsed text ts i k

abbrev pub Shows : List ℕ → List Token → ℕ → Line Place → Type 0
Shows text ts i blank_line = (peek ts i).kind ≡ 13
Shows text ts i (comment_line c) = CommentShows ts i c
Shows text ts i (error_line n p) = 32 ≤ (peek ts i).kind
Shows text ts i (item_line k p c) = ItemShows text ts i k p c

-- the lines of the text from the index i of the row on
abbrev pub Shown : List ℕ → List Token → ℕ → List (Line Place) → Type 0
Shown text ts i ls = Lines (Shows text ts) ts i ls

-- what holds of each entry and its item in the row of any text, with diagnostics or without
abbrev pub Said : List ℕ → List Token → Entry → Item Place → Type 0
Said text ts e k = Mentions text ts e.at k × ItemParsed text ts e.at k × (e ≡ entry_at ts e.at)
