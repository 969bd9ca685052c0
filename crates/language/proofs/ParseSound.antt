-- What the parser takes from well-formed tokens is well formed: names, symbols and comments that a plain form can write.
use Prim.Native.Nat.{ℕ}
use mathlib.Core.Bool.{Bool, true, false, ◌||◌, not}
use mathlib.Core.List.{List, [], ◌∷◌, map}
use mathlib.Core.Path.{◌≡◌, refl, sym}
use borrow.Author.Tests.{not-true}
use lib.Dec.{eqb}
use Rattle.lexer.specs.Text.{codes, same}
use Rattle.lexer.specs.Tokens.{TokenKind, word, number, quoted, str, sign, comment, newline, unterminated_string, unterminated_quote}
use Rattle.language.specs.Parser.{when}
use Rattle.language.specs.Lines.{RawSymbol, raw_blank, glyph, RawDecoder, state_in, one_character, bare, bracket, symbol_in, string_in, ending_of, lines}
use Rattle.language.proofs.Every.{by_test, Every, Maybe, every_map}
use Rattle.language.proofs.TokenKinds as TokenKinds
use Rattle.language.proofs.PlainLex.{IsWord, IsSymbol, IsComment, start_no_feed}
use Rattle.language.proofs.Decimal.{digit_no_feed}
use Rattle.language.proofs.LexSound.{Fine, AllFine, GoodKind, kinds_good}
use Rattle.language.proofs.ParseHolds as Holds
use Rattle.language.proofs.ParseHolds.{Goods, GoodEnding, GoodDecoder, GoodLine}
use Rattle.language.proofs.PlainParse as PlainParse
use Rattle.language.proofs.PlainParse.{U, NotBlank, nowhere}

-- a state's name as it is read
pub record GoodName (w : List ℕ) : Type 0 where
  pub name-word : IsWord w
  pub name_blank : NotBlank w
  pub name_fine : AllFine w

-- a character that a quoted symbol can be
abbrev pub GoodCode : ℕ → Type 0
GoodCode c = IsSymbol c × Fine c

abbrev pub GoodSymbol : RawSymbol → Type 0
GoodSymbol raw_blank = Unit {0}
GoodSymbol (glyph c) = GoodCode c

abbrev pub GoodComment : List ℕ → Type 0
GoodComment s = IsComment s × AllFine s

-- what holds of each part of a line that is read
abbrev pub writable : {P : Type 0} → Goods P
writable = record { name = λ n. GoodName n.value; text = λ t. AllFine t.value; sym = GoodSymbol; note = λ c. GoodComment c.value }

abbrev pub GoodOutput : RawDecoder → Type 0
GoodOutput o = GoodDecoder (writable {P = U}) o

-- ---- views

when_good : {A : Type 0} (good : A → Type 0) (b : Bool) (a : A) → (b ≡ true → good a) → Maybe good (when b a)
when_good good true a h = h refl
when_good good false a h = tt

state_in_lem : (k : TokenKind) → GoodKind k → Maybe GoodName (state_in k)
unfolding state_in
state_in_lem (word w) h = when_good GoodName (not (same w (codes "_"))) w (λ e. record { name-word = h.0; name_blank = not-true (same w (codes "_")) e; name_fine = h.1 })
state_in_lem (number w) h = tt
state_in_lem (quoted c) h = tt
state_in_lem (str s) h = tt
state_in_lem (sign c) h = tt
state_in_lem (comment s) h = tt
state_in_lem newline h = tt
state_in_lem unterminated_string h = tt
state_in_lem unterminated_quote h = tt

bare_good : (b c : ℕ) → GoodCode c → GoodSymbol (bare b c)
unfolding bare
bare_good b c h = by_test (eqb c b) (λ e. rw (e, bare) tt) (λ e. rw (e, bare) h)

word-symbol : (w : List ℕ) → IsWord w → AllFine w → Maybe GoodSymbol (one_character (bare 0x5F) w)
unfolding one_character
word-symbol [] h k = tt
word-symbol (c ∷ []) h k = bare_good 0x5F c (start_no_feed c h.0, k.0)
word-symbol (c ∷ d ∷ w) h k = tt

symbol_in_lem : (k : TokenKind) → GoodKind k → Maybe GoodSymbol (symbol_in k)
unfolding symbol_in
symbol_in_lem (word w) h = word-symbol w h.0 h.1
symbol_in_lem (number []) h = tt
symbol_in_lem (number (c ∷ [])) h = (digit_no_feed c h.0.0, h.1.0)
symbol_in_lem (number (c ∷ d ∷ w)) h = tt
symbol_in_lem (quoted c) h = h
symbol_in_lem (sign c) h = when_good GoodSymbol (not (bracket c || eqb c 0x2A || eqb c 0x3B)) (bare 0x2423 c) (λ e. bare_good 0x2423 c h)
symbol_in_lem (str s) h = tt
symbol_in_lem (comment s) h = tt
symbol_in_lem newline h = tt
symbol_in_lem unterminated_string h = tt
symbol_in_lem unterminated_quote h = tt

string_in_lem : (k : TokenKind) → GoodKind k → Maybe AllFine (string_in k)
unfolding string_in
string_in_lem (str s) h = h
string_in_lem (word w) h = tt
string_in_lem (number w) h = tt
string_in_lem (quoted c) h = tt
string_in_lem (sign c) h = tt
string_in_lem (comment s) h = tt
string_in_lem newline h = tt
string_in_lem unterminated_string h = tt
string_in_lem unterminated_quote h = tt

-- ---- lines

ending_good : (k : TokenKind) → GoodKind k → GoodEnding GoodComment (ending_of k)
unfolding ending_of
ending_good (comment s) h = h
ending_good (word w) h = tt
ending_good (number w) h = tt
ending_good (quoted c) h = tt
ending_good (str s) h = tt
ending_good (sign c) h = tt
ending_good newline h = tt
ending_good unterminated_string h = tt
ending_good unterminated_quote h = tt

-- every line of a text of admitted characters, places left out
pub lines_good : (cs : List ℕ) → AllFine cs → Every (GoodLine writable) (lines nowhere (map PlainParse.bare (TokenKinds.kinds cs)))
lines_good cs h =
    Holds.lines_good (λ t. GoodKind t.kind) writable
    (λ t g. state_in_lem t.kind g)
    (λ t g. symbol_in_lem t.kind g)
    (λ t g. string_in_lem t.kind g)
    (λ t g. ending_good t.kind g)
    nowhere
    (map PlainParse.bare (TokenKinds.kinds cs))
    (every_map GoodKind (λ t. GoodKind t.kind) PlainParse.bare (λ k g. g) (TokenKinds.kinds cs) (kinds_good cs h))
