-- Paper 01, "Plain form": the one text that stands for a machine's content.
use Rattle.std.specs.Prelude.{ℕ, zero, suc, ◌+◌, ◌/◌, ◌%◌, Bool, true, false, List, [], ◌∷◌, ◌++◌, map, eqb, ltb, Option, None, Some}
use Prim.Native.Char.{code}
use Prim.Native.String as S
use Rattle.machine.specs.declared.Kind.{Kind}
use Rattle.machine.specs.declared.Kind.TheVariants.{Acceptor, Transducer, Enumerator, Beaver}
use Rattle.machine.specs.declared.BitOrder.TheVariants.{Lsb, Msb}
use Rattle.machine.specs.declared.Decoder.{Decoder}
use Rattle.machine.specs.declared.Decoder.TheVariants.{Word, Unary, Binary}
use Rattle.language.specs.Machine.{Dir, left, right, stay}
use Rattle.language.specs.Content.{StateContent, RuleContent, Content}

-- a piece of text, as code points, put in front of what follows
abbrev pub Piece : Type 0
Piece = List ℕ → List ℕ

-- one piece and then another
infixr 20 ◌⨾◌
abbrev pub ◌⨾◌ : Piece → Piece → Piece
◌⨾◌ a b = λ rest. a (b rest)

-- no text
abbrev pub nothing : Piece
nothing = λ rest. rest

-- quoted text
abbrev pub say : S.String → Piece
say S.[] = λ rest. rest
say (S.◌∷◌ c s) = λ rest. code c ∷ say s rest

-- characters as they are
abbrev pub verbatim : List ℕ → Piece
verbatim w = λ rest. w ++ rest

-- a line's end
abbrev pub end : Piece
end = λ rest. 10 ∷ rest

-- a piece that stands there only if b
abbrev pub only : Bool → Piece → Piece
only true p = p
only false p = nothing

-- a piece for each member
unfoldable pub each : {A : Type 0} → (A → Piece) → List A → Piece
each show [] = λ rest. rest
each show (a ∷ as') = λ rest. show a (each show as' rest)

-- members parted by a comma and a space
unfoldable pub commas : {A : Type 0} → (A → Piece) → List A → Piece
commas show [] = λ rest. rest
commas show (a ∷ []) = λ rest. show a rest
commas show (a ∷ b ∷ bs) = λ rest. show a (say ", " (commas show (b ∷ bs) rest))

-- a symbol is always quoted
abbrev pub symbol : ℕ → Piece
symbol c = say "'" ⨾ (λ rest. c ∷ rest) ⨾ say "'"

-- the letter of a move
abbrev pub dir_code : Dir → ℕ
dir_code left = 0x4C
dir_code right = 0x52
dir_code stay = 0x4E

-- a move: L, R or N
abbrev pub direction : Dir → Piece
direction d = λ rest. dir_code d ∷ rest

-- the letter that stands behind a backslash for c, if c is escaped: `"`, `\`, line feed and tab
unfoldable pub escaped : ℕ → Option ℕ
escaped c =
    elim (eqb c 0x22) [
      | true ↦ Some 0x22
      | false ↦ elim (eqb c 0x5C) [ true ↦ Some 0x5C | false ↦ elim (eqb c 10) [ true ↦ Some 0x6E | false ↦ elim (eqb c 9) [ true ↦ Some 0x74 | false ↦ None ] ] ]
    ]

-- a character of a string, from its escape
unfoldable pub in_string : Option ℕ → ℕ → Piece
in_string None c = λ rest. c ∷ rest
in_string (Some e) c = λ rest. 0x5C ∷ e ∷ rest

-- the characters of a string, escaped
unfoldable pub escaped_text : List ℕ → Piece
unfolding escaped in_string
escaped_text [] = λ rest. rest
escaped_text (c ∷ cs) = λ rest. in_string (escaped c) c (escaped_text cs rest)

-- a string in double quotes
unfoldable pub string : List ℕ → Piece
unfolding escaped_text
string s = say "\"" ⨾ escaped_text s ⨾ say "\""

-- n in decimal without needless zeros, in at most k + 1 digits
unfoldable pub decimal_from : ℕ → ℕ → Piece
decimal_from zero n = λ rest. (0x30 + n % 10) ∷ rest
decimal_from (suc k) n = λ rest. elim (ltb n 10) [ true ↦ (0x30 + n) ∷ rest | false ↦ decimal_from k (n / 10) ((0x30 + n % 10) ∷ rest) ]

-- a number below 1000, as the number of tapes is
unfoldable pub decimal : ℕ → Piece
unfolding decimal_from
decimal n = decimal_from 2 n

-- a comment: `// TEXT`, or `//` if the text is empty
abbrev pub comment : List ℕ → Piece
comment [] = say "//"
comment (c ∷ cs) = say "// " ⨾ verbatim (c ∷ cs)

-- a comment on a line of its own
abbrev pub comment_line : List ℕ → Piece
comment_line s = comment s ⨾ end

-- a rule's own comment, if it has one
abbrev pub own_comment : Option (List ℕ) → Piece
own_comment None = nothing
own_comment (Some s) = say " " ⨾ comment s

-- the word for a kind
abbrev pub kind_name : Kind → S.String
kind_name Acceptor = "acceptor"
kind_name Transducer = "transducer"
kind_name Enumerator = "enumerator"
kind_name Beaver = "beaver"

-- how the output is read
abbrev pub decoder : Decoder → Piece
decoder Word = say "word"
decoder (Unary c) = say "unary " ⨾ symbol c
decoder (Binary Lsb) = say "binary lsb"
decoder (Binary Msb) = say "binary msb"

-- a set of names
unfoldable pub name_set : List (List ℕ) → Piece
unfolding commas
name_set l = say "{" ⨾ commas verbatim l ⨾ say "}"

-- a set of symbols
unfoldable pub symbol_set : List ℕ → Piece
unfolding commas
symbol_set l = say "{" ⨾ commas symbol l ⨾ say "}"

-- the names of the final states, in state order
unfoldable pub final_names : List StateContent → List (List ℕ)
final_names [] = []
final_names (s ∷ ss) = elim s.final [ true ↦ s.name ∷ final_names ss | false ↦ final_names ss ]

-- δ(FROM, (READ, ..)) = (TO, (WRITE, ..), (MOVE, ..))
unfoldable pub rule : RuleContent → Piece
unfolding commas
rule r =
    say "δ(" ⨾ verbatim r.from ⨾ say ", (" ⨾ commas (λ a. symbol a.read) r.actions ⨾ say ")) = (" ⨾ verbatim r.to ⨾ say ", ("
    ⨾ commas (λ a. symbol a.write) r.actions ⨾ say "), (" ⨾ commas (λ a. direction a.dir) r.actions ⨾ say "))"

-- a rule's line below its leading lines
unfoldable pub rule_lines : RuleContent → Piece
unfolding each rule
rule_lines r = each comment_line r.leading ⨾ rule r ⨾ own_comment r.comment ⨾ end

-- the lines in paper 01's order; what is undeclared has no line, but F always has
unfoldable pub pieces : Content → Piece
unfolding each string decimal name_set symbol_set final_names rule_lines
pieces m =
    each comment_line m.header
    ⨾ say "machine " ⨾ string m.name ⨾ end
    ⨾ say "kind " ⨾ say (kind_name m.kind) ⨾ end
    ⨾ say "input " ⨾ string m.input ⨾ end
    ⨾ say "output " ⨾ decoder m.output ⨾ end
    ⨾ say "tapes = " ⨾ decimal m.tapes ⨾ end
    ⨾ only m.declared.states (say "Q = " ⨾ name_set (map (λ s. s.name) m.states) ⨾ end)
    ⨾ only m.declared.input_alphabet (say "Σ = " ⨾ symbol_set m.sigma ⨾ end)
    ⨾ only m.declared.tape_alphabet (say "Γ = " ⨾ symbol_set m.gamma ⨾ end)
    ⨾ only m.declared.blank (say "blank = " ⨾ symbol m.blank ⨾ end)
    ⨾ only m.declared.start (say "start = " ⨾ verbatim m.start ⨾ end)
    ⨾ say "F = " ⨾ name_set (final_names m.states) ⨾ end
    ⨾ each rule_lines m.rules
    ⨾ each comment_line m.trailing

-- the plain form of a machine's content, as code points
unfoldable pub plain : Content → List ℕ
unfolding pieces
plain m = pieces m []
