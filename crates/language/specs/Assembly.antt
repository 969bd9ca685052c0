-- Paper 01, "parser.rs, assembly": lines become declarations, rules with their comments, and diagnostics.
use Rattle.std.specs.Prelude.{ℕ, ◌+◌, ◌*◌, Bool, true, false, ◌&&◌, List, [], ◌∷◌, ◌++◌, map, flat_map, eqb, leb, length, Option, None, Some, unwrap_or, option_to_list, option_map, filter_map}
use Rattle.lexer.specs.Text.{same}
use Rattle.lexer.specs.Tokens.{Span}
use Rattle.machine.specs.declared.Kind.{Kind}
use Rattle.language.specs.Machine.{Located, Dir, Action, Rule}
use Rattle.language.specs.Lines.{RawSymbol, raw_blank, glyph, RawDecoder, RawTransition, Text, Item, machine_item, input_item, kind_item, output_item, tapes_item, states_item, final_item, input_alphabet_item, tape_alphabet_item, blank_item, start_item, transition_item, Line, blank_line, comment_line, item_line, error_line}

-- ---- declarations

-- the items of a list of lines, each with its line's place
unfoldable pub items : {P : Type 0} → List (Line P) → List (Located P (Item P))
items ls = filter_map (λ l. elim l [ item_line i p c ↦ Some (record { value = i; place = p }) | _ ↦ None ]) ls

-- what `part` finds in the first item where it finds anything, with the line's place: a later declaration of a name is ignored
unfoldable pub first : {P A : Type 0} → (Item P → Option A) → List (Located P (Item P)) → Option (Located P A)
first part [] = None
first part (i ∷ is) = elim (part i.value) [ Some a ↦ Some (record { value = a; place = i.place }) | None ↦ first part is ]

-- the value that was found
unfoldable pub found : {P A : Type 0} → Option (Located P A) → Option A
found o = option_map (λ l. l.value) o

-- a symbol as written stands for a character once the blank is known
unfoldable pub resolve : ℕ → RawSymbol → ℕ
resolve b raw_blank = b
resolve b (glyph c) = c

-- the blank: U+2423 unless declared; `blank = _` gives U+2423
unfoldable pub blank_of : {P : Type 0} → List (Located P (Item P)) → ℕ
unfolding first found resolve
blank_of is = resolve 0x2423 (unwrap_or (found (first (λ i. elim i [ blank_item b ↦ Some b | _ ↦ None ]) is)) raw_blank)

-- the names that Q declares
unfoldable pub states_in : {P : Type 0} → List (Located P (Item P)) → Option (List (Located P (List ℕ)))
unfolding first found
states_in is = found (first (λ i. elim i [ states_item q ↦ Some q | _ ↦ None ]) is)

-- the names that F lists
unfoldable pub finals_in : {P : Type 0} → List (Located P (Item P)) → List (Located P (List ℕ))
unfolding first found
finals_in is = unwrap_or (found (first (λ i. elim i [ final_item q ↦ Some q | _ ↦ None ]) is)) []

-- ---- rules and comments

-- a rule as written, with its line's place, its comment, and the comments that lead it
pub record RuleLine (P : Type 0) : Type 0 where
  pub raw : RawTransition P
  pub line : P
  pub comment : Option (Located P (List ℕ))
  pub leading : List (Located P (List ℕ))

-- the rules of a text in their order, with all comments where they belong
pub record Body (P : Type 0) : Type 0 where
  pub header : List (Located P (List ℕ))
  pub rules : List (RuleLine P)
  pub trailing : List (Located P (List ℕ))

-- header comments before the rest
unfoldable pub add_header : {P : Type 0} → List (Located P (List ℕ)) → Body P → Body P
add_header h b = record { header = h ++ b.header; rules = b.rules; trailing = b.trailing }

-- a rule before the rest
unfoldable pub add_rule : {P : Type 0} → RuleLine P → Body P → Body P
add_rule r b = record { header = b.header; rules = r ∷ b.rules; trailing = b.trailing }

-- at the end the pending comments are trailing, or header if no line held an item or failed
unfoldable pub at_end : {P : Type 0} → Bool → List (Located P (List ℕ)) → Body P
at_end true cs = record { header = []; rules = []; trailing = cs }
at_end false cs = record { header = cs; rules = []; trailing = [] }

-- before a rule: all pending comments lead it if an item or failed line came earlier, else only the block that touches it
unfoldable pub leads : {A : Type 0} → Bool → List A → List A → List A
leads true old block = old ++ block
leads false old block = block

-- the pending comments that do not lead the rule: they are header
unfoldable pub unled : {A : Type 0} → Bool → List A → List A
unled true old = []
unled false old = old

-- an item's comments, before the rest of the text
unfoldable pub attach_item : {P : Type 0} → Option (RawTransition P) → Bool → List (Located P (List ℕ)) → List (Located P (List ℕ)) → P → Option (Located P (List ℕ)) → Body P → Body P
unfolding add_header add_rule leads unled
attach_item None seen old block p c b = add_header (old ++ block ++ option_to_list c) b
attach_item (Some r) seen old block p c b = add_header (unled seen old) (add_rule (record { raw = r; line = p; comment = c; leading = leads seen old block }) b)

-- seen: an item or failed line came earlier; old: pending comments of blocks that have ended; block: those of the block that goes on
unfoldable pub attach : {P : Type 0} → Bool → List (Located P (List ℕ)) → List (Located P (List ℕ)) → List (Line P) → Body P
unfolding at_end attach_item
attach seen old block [] = at_end seen (old ++ block)
attach seen old block (blank_line ∷ ls) = attach seen (old ++ block) [] ls
attach seen old block (comment_line c ∷ ls) = attach seen old (block ++ c ∷ []) ls
attach seen old block (error_line n p ∷ ls) = attach true [] [] ls
attach seen old block (item_line i p c ∷ ls) =
    attach_item (elim i [ transition_item r ↦ Some r | _ ↦ None ]) seen old block p c (attach true [] [] ls)

-- the rules and comments of a list of lines
unfoldable pub body_of : {P : Type 0} → List (Line P) → Body P
unfolding attach
body_of ls = attach false [] [] ls

-- how many rules a rule as written stands for: the product of the sizes of its read sets
unfoldable pub combinations : {A : Type 0} → List (List A) → ℕ
combinations [] = 1
combinations (s ∷ ss) = length s * combinations ss

-- what becomes of a rule when n rules came before it
pub data Verdict : Type 0 where
  expands wrong_arity too_many : Verdict

-- a wrong number of entries comes first, then the limit of 262,144 rules
unfoldable pub verdict : {P : Type 0} → ℕ → RawTransition P → Verdict
unfolding combinations
verdict n r =
    elim (eqb (length r.write) (length r.read) && eqb (length r.dir) (length r.read)) [
      | false ↦ wrong_arity
      | true ↦ elim (leb (n + combinations r.read) 262144) [ true ↦ expands | false ↦ too_many ]
    ]

-- the rules that expand, n rules standing before them
unfoldable pub kept : {P : Type 0} → ℕ → List (RuleLine P) → List (RuleLine P)
unfolding verdict combinations
kept n [] = []
kept n (r ∷ rs) = elim (verdict n r.raw) [ expands ↦ r ∷ kept (n + combinations r.raw.read) rs | wrong_arity ↦ kept n rs | too_many ↦ kept n rs ]

-- every choice of one entry from each list, the last list fastest
unfoldable pub each_front : {A : Type 0} → List A → List (List A) → List (List A)
each_front [] ls = []
each_front (a ∷ r) ls = map (λ l. a ∷ l) ls ++ each_front r ls

-- every choice of one entry from each of all lists
unfoldable pub choices : {A : Type 0} → List (List A) → List (List A)
unfolding each_front
choices [] = [] ∷ []
choices (s ∷ ss) = each_front s (choices ss)

-- what is written where r is read: `*` writes it back
unfoldable pub written : ℕ → RawSymbol → Option RawSymbol → ℕ
unfolding resolve
written b r w = resolve b (unwrap_or w r)

-- the actions of a choice of symbols read
unfoldable pub actions : {P : Type 0} → ℕ → List (Located P RawSymbol) → List (Located P (Option RawSymbol)) → List (Located P Dir) → List (Action P)
unfolding resolve written
actions b (r ∷ rs) (w ∷ ws) (d ∷ ds) = record {
  read = record { value = resolve b r.value; place = r.place };
  write = record { value = written b r.value w.value; place = w.place };
  dir = d.value;
} ∷ actions b rs ws ds
actions b _ _ _ = []

-- the rule of a choice
unfoldable pub rule_of : {P : Type 0} → ℕ → RuleLine P → Option (Located P (List ℕ)) → List (Located P (List ℕ)) → List (Located P RawSymbol) → Rule P
unfolding actions
rule_of b l c cs rs = record { from = l.raw.from; to = l.raw.to; line = l.line; comment = c; leading = cs; actions = actions b rs l.raw.write l.raw.dir }

-- the comments go to the first rule
unfoldable pub dressed : {P : Type 0} → ℕ → RuleLine P → List (List (Located P RawSymbol)) → List (Rule P)
unfolding rule_of
dressed b l [] = []
dressed b l (rs ∷ more) = rule_of b l l.comment l.leading rs ∷ map (rule_of b l None []) more

-- the rules that a line stands for
unfoldable pub expand : {P : Type 0} → ℕ → RuleLine P → List (Rule P)
unfolding dressed choices
expand b l = dressed b l (choices l.raw.read)

-- the rules of a list of lines
unfoldable pub expand_all : {P : Type 0} → ℕ → List (RuleLine P) → List (Rule P)
unfolding expand
expand_all b ls = flat_map (expand b) ls

-- ---- diagnostics

-- a code (E001 is 1), its place, and a related place
pub record Diagnostic (P : Type 0) : Type 0 where
  pub code : ℕ
  pub place : P
  pub related : Option P

-- a diagnostic
abbrev pub diagnostic : {P : Type 0} → ℕ → P → Option P → Diagnostic P
diagnostic n p q = record { code = n; place = p; related = q }

-- the failed lines
unfoldable pub line_errors : {P : Type 0} → List (Line P) → List (Diagnostic P)
line_errors ls = filter_map (λ l. elim l [ error_line n p ↦ Some (diagnostic n p None) | _ ↦ None ]) ls

-- the number of the name that an item declares
unfoldable pub declaration : {P : Type 0} → Item P → Option ℕ
declaration (machine_item x) = Some 0
declaration (kind_item x) = Some 1
declaration (input_item x) = Some 2
declaration (output_item x) = Some 3
declaration (tapes_item x) = Some 4
declaration (states_item x) = Some 5
declaration (input_alphabet_item x) = Some 6
declaration (tape_alphabet_item x) = Some 7
declaration (blank_item x) = Some 8
declaration (start_item x) = Some 9
declaration (final_item x) = Some 10
declaration (transition_item x) = None

-- the name n is declared
abbrev pub is_number : ℕ → Option ℕ → Bool
is_number n None = false
is_number n (Some m) = eqb m n

-- the place of the first declaration of the name n
unfoldable pub declared_at : {P : Type 0} → ℕ → List (Located P (Item P)) → Option P
unfolding declaration
declared_at n [] = None
declared_at n (i ∷ is) = elim (is_number n (declaration i.value)) [ true ↦ Some i.place | false ↦ declared_at n is ]

-- the place of the first declaration of an item's name
unfoldable pub earlier : {P : Type 0} → Option ℕ → List (Located P (Item P)) → Option P
unfolding declared_at
earlier None before = None
earlier (Some n) before = declared_at n before

-- tapes above 255: E009 at the value
unfoldable pub tapes_error : {P : Type 0} → Option (Located P ℕ) → List (Diagnostic P)
tapes_error None = []
tapes_error (Some n) = elim (leb n.value 255) [ true ↦ [] | false ↦ diagnostic 9 n.place None ∷ [] ]

-- a second declaration: E011, related to the first, and nothing else is looked at
unfoldable pub declaration_error : {P : Type 0} → List (Located P (Item P)) → Located P (Item P) → List (Diagnostic P)
unfolding declaration earlier tapes_error
declaration_error before i =
    elim (earlier (declaration i.value) before) [
      | Some p ↦ diagnostic 11 i.place (Some p) ∷ []
      | None ↦ tapes_error (elim i.value [ tapes_item n ↦ Some n | _ ↦ None ])
    ]

-- the diagnostics of all declarations; `before` are those that came earlier
unfoldable pub declaration_errors : {P : Type 0} → List (Located P (Item P)) → List (Located P (Item P)) → List (Diagnostic P)
unfolding declaration_error
declaration_errors before [] = []
declaration_errors before (i ∷ is) = declaration_error before i ++ declaration_errors (before ++ i ∷ []) is

-- the place of the first entry of a name
unfoldable pub listed_at : {P : Type 0} → List ℕ → List (Located P (List ℕ)) → Option P
listed_at w [] = None
listed_at w (l ∷ ls) = elim (same l.value w) [ true ↦ Some l.place | false ↦ listed_at w ls ]

-- a name absent from a declared Q: E003
unfoldable pub unknown_error : {P : Type 0} → Option (List (Located P (List ℕ))) → Located P (List ℕ) → List (Diagnostic P)
unfolding listed_at
unknown_error None f = []
unknown_error (Some q) f = elim (listed_at f.value q) [ Some p ↦ [] | None ↦ diagnostic 3 f.place None ∷ [] ]

-- F: a repeat is E011, related to its first listing
unfoldable pub final_error : {P : Type 0} → Option (List (Located P (List ℕ))) → List (Located P (List ℕ)) → Located P (List ℕ) → List (Diagnostic P)
unfolding listed_at unknown_error
final_error q before f = elim (listed_at f.value before) [ Some p ↦ diagnostic 11 f.place (Some p) ∷ [] | None ↦ unknown_error q f ]

-- the diagnostics of all that F lists; `before` are those listed earlier
unfoldable pub final_errors : {P : Type 0} → Option (List (Located P (List ℕ))) → List (Located P (List ℕ)) → List (Located P (List ℕ)) → List (Diagnostic P)
unfolding final_error
final_errors q before [] = []
final_errors q before (f ∷ fs) = final_error q before f ++ final_errors q (before ++ f ∷ []) fs

-- rules, n standing before them: E010 for a wrong arity, E009 for the first that passes the limit
unfoldable pub rule_errors : {P : Type 0} → ℕ → Bool → List (RuleLine P) → List (Diagnostic P)
unfolding verdict combinations
rule_errors n cut [] = []
rule_errors n cut (r ∷ rs) = elim (verdict n r.raw) [
  | expands ↦ rule_errors (n + combinations r.raw.read) cut rs
  | wrong_arity ↦ diagnostic 10 r.line None ∷ rule_errors n cut rs
  | too_many ↦ elim cut [ true ↦ rule_errors n true rs | false ↦ diagnostic 9 r.line None ∷ rule_errors n true rs ]
]

-- all diagnostics in the order in which they are found
unfoldable pub diagnostics_of : {P : Type 0} → List (Line P) → List (Diagnostic P)
unfolding line_errors items declaration_errors states_in finals_in final_errors body_of rule_errors
diagnostics_of ls =
    let is = items ls in
    line_errors ls ++ (declaration_errors [] is ++ (final_errors (states_in is) [] (finals_in is) ++ rule_errors 0 false (body_of ls).rules))

-- a diagnostic before the first whose start is not smaller
unfoldable pub insert : Diagnostic Span → List (Diagnostic Span) → List (Diagnostic Span)
insert d [] = d ∷ []
insert d (e ∷ l) = elim (leb d.place.start e.place.start) [ true ↦ d ∷ e ∷ l | false ↦ e ∷ insert d l ]

-- sorted stably by start
unfoldable pub sort : List (Diagnostic Span) → List (Diagnostic Span)
unfolding insert
sort [] = []
sort (d ∷ l) = insert d (sort l)

-- the diagnostics of a text's lines
unfoldable pub diagnostics : List (Line Span) → List (Diagnostic Span)
unfolding sort diagnostics_of
diagnostics ls = sort (diagnostics_of ls)
