-- A search's cursor, and one step of it.
use Rattle.std.specs.Prelude.{ℕ, ◌+◌, cond, List, [], ◌∷◌, eqb, Option, None, Some}
use Rattle.tokens.specs.declared.Token.{Token}
use Rattle.parser.specs.Row.{peek}
use Rattle.diag.specs.declared.Diagnostic.{Diagnostic}
use Rattle.diag.specs.Log.{record_from}
use Rattle.assembler.specs.declared.rules.Tally.{Tally}
use Rattle.assembler.specs.Entries.{entry_at, behind}
use Rattle.assembler.specs.Rules.{verdict, after}
use Rattle.diag_search.specs.declared.Pass.{Pass}
use Rattle.diag_search.specs.declared.Pass.TheVariants.{Rules}
use Rattle.diag_search.specs.declared.Search.{Search}
use Rattle.diag_search.specs.declared.Step.{Step}

-- the search at a token of a pass
abbrev pub moved : Search → Pass → ℕ → Search
moved s p i = record { count = s.count; first = s.first; errors = s.errors; rules = s.rules; pass = p; at = i; tally = s.tally }

-- the search with the rules so far
abbrev pub tallied : Search → Tally → Search
tallied s c = record { count = s.count; first = s.first; errors = s.errors; rules = s.rules; pass = s.pass; at = s.at; tally = c }

-- where the line behind the one at an index begins
abbrev pub next_line : List Token → ℕ → ℕ
next_line ts i = i + 1 + behind i (peek ts i)

-- the search behind a line, with the rules that it stands for
abbrev pub ruled : List Token → Search → Search
ruled ts s = tallied (moved s Rules (next_line ts s.at)) (after s.tally (verdict s.tally.rules (entry_at ts s.at)))

-- a step, with what a log of one record, given n diagnostics, took
abbrev pub stepped : Search → List ℕ → ℕ → Step
stepped s log n = record { search = s; found = cond (eqb n 1) (Some (record_from log 0)) None }

-- a step that finds nothing, to a token of a pass
abbrev pub onward : Search → Pass → ℕ → Step
onward s p i = record { search = moved s p i; found = None }

-- the diagnostic that is there, or none
abbrev pub option_list : Option Diagnostic → List Diagnostic
option_list None = []
option_list (Some d) = d ∷ []

-- what a step found
unfoldable pub taken : Step → List Diagnostic
taken r = option_list r.found
