-- Paper 01, "The records": a machine as a head and a sheet of words, diagnostics as the words of a log.
use Rattle.std.specs.Prelude.{ℕ, ◌+◌, ◌*◌, Bool, true, false, List, [], ◌∷◌, ◌++◌, map, length, Option, None, Some, unwrap_or, option_map}
use Rattle.diag.specs.declared.Diagnostic as Record
use Rattle.diag.specs.Records as Records
use Rattle.lexer.specs.Tokens.{Span, span}
use Rattle.machine.specs.Numbers.{kind_number}
use Rattle.machine.specs.declared.BitOrder.TheVariants.{Lsb, Msb}
use Rattle.machine.specs.declared.Decoder.{Decoder}
use Rattle.machine.specs.declared.Decoder.TheVariants.{Word, Unary, Binary}
use Rattle.machine.specs.declared.Declared.{Declared}
use Rattle.machine.specs.declared.Counts.{Counts}
use Rattle.machine.specs.declared.Head.{Head}
use Rattle.language.specs.Machine.{Located, Dir, left, right, stay, State, Action, Rule, Symbol, Machine}
use Rattle.language.specs.Assembly.{RuleLine, combinations, Diagnostic}

-- ---- places

-- the place that says that there is none
abbrev pub no_place : Span
no_place = span 4294967295 4294967295

-- a place, or that there is none
unfoldable pub or_none : Option Span → Span
or_none o = unwrap_or o no_place

-- the place of a value, if there is one
unfoldable pub place_or_none : {A : Type 0} → Option (Located Span A) → Span
place_or_none o = unwrap_or (option_map (λ l. l.place) o) no_place

-- a place in two words
abbrev pub place_words : Span → List ℕ
place_words p = p.start ∷ p.end ∷ []

-- the words of each member, one after the other
unfoldable pub flat : {A : Type 0} → (A → List ℕ) → List A → List ℕ
flat words [] = []
flat words (a ∷ l) = words a ++ flat words l

-- the place of a value
abbrev pub located_words : {A : Type 0} → Located Span A → List ℕ
located_words l = place_words l.place

-- ---- the head

-- the head of a machine; name and input are places between their quotes
unfoldable pub head_of : Machine Span → Head
unfolding or_none place_or_none
head_of m = record {
  name = place_or_none m.name;
  input = place_or_none m.input;
  kind = m.kind;
  output = m.output;
  tapes = m.tapes;
  blank = m.blank;
  declared = m.declared;
  start = place_or_none m.start;
  map = record {
    kind = or_none m.map.kind;
    input = or_none m.map.input;
    tapes = or_none m.map.tapes;
    start = or_none m.map.start;
    states = or_none m.map.states;
  };
  counts = record {
    states = length m.states;
    sigma = length m.sigma;
    gamma = length m.gamma;
    finals = length m.finals;
    header = length m.header;
    trailing = length m.trailing;
    rules = length m.rules;
  };
}

-- 1 for true, 0 for false
abbrev pub flag : Bool → ℕ
flag true = 1
flag false = 0

-- a decoder in two words
abbrev pub decoder_words : Decoder → List ℕ
decoder_words Word = 0 ∷ 0 ∷ []
decoder_words (Unary c) = 1 ∷ c ∷ []
decoder_words (Binary Lsb) = 2 ∷ 0 ∷ []
decoder_words (Binary Msb) = 2 ∷ 1 ∷ []

-- the five flags
abbrev pub declared_words : Declared → List ℕ
declared_words d = flag d.states ∷ flag d.input_alphabet ∷ flag d.tape_alphabet ∷ flag d.start ∷ flag d.blank ∷ []

-- the seven counts
abbrev pub count_words : Counts → List ℕ
count_words n = n.states ∷ n.sigma ∷ n.gamma ∷ n.finals ∷ n.header ∷ n.trailing ∷ n.rules ∷ []

-- a head in 33 words
unfoldable pub head_words : Head → List ℕ
head_words h =
    decoder_words h.output ++ place_words h.name ++ place_words h.input ++ kind_number h.kind ∷ h.tapes ∷ h.blank ∷ []
    ++ declared_words h.declared ++ place_words h.start ++ place_words h.map.kind ++ place_words h.map.input ++ place_words h.map.tapes
    ++ place_words h.map.start ++ place_words h.map.states ++ count_words h.counts

-- ---- the sheet

-- a state: the place of its name, and 1 if it is final
unfoldable pub state_words : State Span → List ℕ
state_words s = place_words s.name.place ++ flag s.final ∷ []

-- a symbol: its code and its place, 0 0 if it is inferred
unfoldable pub symbol_words : Symbol Span → List ℕ
symbol_words s = s.code ∷ elim s.declared_at [ Some p ↦ place_words p | None ↦ 0 ∷ 0 ∷ [] ]

-- the number of a direction
abbrev pub dir_number : Dir → ℕ
dir_number left = 0
dir_number right = 1
dir_number stay = 2

-- a tape: code read and its place, code written and its place, direction
unfoldable pub action_words : Action Span → List ℕ
action_words a = a.read.value ∷ place_words a.read.place ++ a.write.value ∷ place_words a.write.place ++ dir_number a.dir ∷ []

-- how many words a rule takes on n tapes, led by k comments
abbrev pub rule_length : ℕ → ℕ → ℕ
rule_length n k = 11 + 7 * n + 2 * k

-- a rule: its length; places of from, to, line and comment; arity and leading count; its tapes; its leading comments
unfoldable pub rule_words : Rule Span → List ℕ
unfolding place_or_none flat action_words
rule_words r =
    let n = length r.actions in
    let k = length r.leading in
    rule_length n k ∷ place_words r.from.place ++ place_words r.to.place ++ place_words r.line ++ place_words (place_or_none r.comment) ++ n ∷ k ∷ []
    ++ (flat action_words r.actions ++ flat located_words r.leading)

-- the sheet: states, Σ, Γ, finals listed, header comments, trailing comments, rules
unfoldable pub sheet_words : Machine Span → List ℕ
unfolding flat state_words symbol_words rule_words
sheet_words m =
    flat state_words m.states
    ++ (flat symbol_words m.sigma
    ++ (flat symbol_words m.gamma
    ++ (flat place_words m.finals
    ++ (flat located_words m.header
    ++ (flat located_words m.trailing
    ++ flat rule_words m.rules)))))

-- how many words the rules of a list of lines take, without expanding them: the comments go to the first rule of each
unfoldable pub rule_lengths : {P : Type 0} → List (RuleLine P) → ℕ
unfolding combinations
rule_lengths [] = 0
rule_lengths (l ∷ ls) = combinations l.raw.read * rule_length (length l.raw.read) 0 + 2 * length l.leading + rule_lengths ls

-- how many words a sheet needs
unfoldable pub sheet_length : {P : Type 0} → Machine P → List (RuleLine P) → ℕ
unfolding rule_lengths
sheet_length m rules =
    3 * (length m.states + length m.sigma + length m.gamma) + 2 * (length m.finals + length m.header + length m.trailing) + rule_lengths rules

-- ---- the log

-- the record of a diagnostic
unfoldable pub record_of : Diagnostic Span → Record.Diagnostic
unfolding or_none
record_of d = record { code = d.code; span = d.place; related = or_none d.related }

-- the words of a list of diagnostics
unfoldable pub log_words : List (Diagnostic Span) → List ℕ
unfolding record_of Records.flat
log_words ds = Records.flat (map record_of ds)
