-- How many rules the lines stand for, and the diagnostics of rules.
use Rattle.std.specs.Prelude.{ℕ, ◌+◌, ◌-◌, ◌*◌, min, Bool, true, false, cond, List, [], ◌∷◌, ◌++◌, eqb, leb, take, drop}
use Rattle.tokens.specs.declared.Token.{Token}
use Rattle.diag.specs.declared.Span.{Span}
use Rattle.diag.specs.declared.Diagnostic.{Diagnostic}
use Rattle.diag.specs.Log.{error}
use Rattle.parser.specs.Row.{peek}
use Rattle.parser.specs.Views.{is_symbol}
use Rattle.assembler.specs.Rows.{place_of}
use Rattle.assembler.specs.Entries.{Entry}
use Rattle.assembler.specs.declared.sets.Sets.{Sets}
use Rattle.assembler.specs.declared.rules.Tally.{Tally}
use Rattle.assembler.specs.declared.rules.Verdict.{Verdict}
use Rattle.assembler.specs.declared.rules.Verdict.TheVariants.{Other, WrongArity, TooMany, Expands}
use Rattle.lexer.specs.KindWords as kinds
use Rattle.assembler.specs.EntryNumbers as entry

-- more rules than this are too many
abbrev pub max_transitions : ℕ
max_transitions = 262144

-- one token more of the read sets: `{` begins a set, `}` multiplies by its size, a symbol counts, another token is passed over
unfoldable pub counted : Sets → Token → Sets
unfolding is_symbol
counted s t =
    cond (eqb t.kind kinds.l_brace) (record { product = s.product; size = 0 })
    (cond (eqb t.kind kinds.r_brace) (record { product = min (s.product * s.size) (max_transitions + 1); size = s.size })
    (cond (is_symbol t) (record { product = s.product; size = s.size + 1 }) s))

-- the product of the sizes of the sets, cut off above the limit
unfoldable pub combinations_from : Sets → List Token → ℕ
unfolding counted
combinations_from s [] = s.product
combinations_from s (t ∷ ts) = combinations_from (counted s t) ts

-- the product of the sizes of the sets among tokens, cut off above the limit
unfoldable pub combinations : List Token → ℕ
unfolding combinations_from
combinations ts = combinations_from (record { product = 1; size = 0 }) ts

-- a rule's `(` holds the numbers of its reads, writes and moves
unfoldable pub same_arity : Token → Bool
same_arity p = cond (eqb p.end p.start) (eqb p.value p.start) false

-- what a rule reads: the tokens from the fourth behind δ up to the next state, whose index stands in the comma behind the state
unfoldable pub read_part : Entry → List Token
read_part e = take ((peek e.rest 2).start - (e.at + entry.read)) (drop 3 e.rest)

-- what becomes of a line when n rules came before it
unfoldable pub verdict : ℕ → Entry → Verdict
unfolding same_arity read_part combinations
verdict n e =
    let total = n + combinations (read_part e) in
    cond (eqb e.first.kind entry.rule) (cond (same_arity (peek e.rest 0)) (cond (leb total max_transitions) (Expands total) TooMany) WrongArity) Other

-- the rules so far, and whether one was dropped for the limit
unfoldable pub after : Tally → Verdict → Tally
after s Other = s
after s WrongArity = s
after s TooMany = record { rules = s.rules; cut = true }
after s (Expands n) = record { rules = n; cut = s.cut }

-- E010 for a wrong arity, E009 for the first rule that passes the limit
unfoldable pub rule_error : Verdict → Bool → Span → List Diagnostic
rule_error Other cut p = []
rule_error WrongArity cut p = error 10 p ∷ []
rule_error TooMany cut p = cond cut [] (error 9 p ∷ [])
rule_error (Expands n) cut p = []

-- the diagnostics of rules, s being the rules so far
unfoldable pub rule_errors : Tally → List Entry → List Diagnostic
unfolding verdict after rule_error
rule_errors s [] = []
rule_errors s (e ∷ es) = let v = verdict s.rules e in rule_error v s.cut (place_of e.first) ++ rule_errors (after s v) es

-- the number of rules
unfoldable pub rule_count : Tally → List Entry → ℕ
unfolding verdict after
rule_count s [] = s.rules
rule_count s (e ∷ es) = rule_count (after s (verdict s.rules e)) es

-- no rules so far
abbrev pub no_rules : Tally
no_rules = record { rules = 0; cut = false }
