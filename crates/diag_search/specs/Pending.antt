-- What a search still finds.
use Rattle.std.specs.Prelude.{ℕ, suc, ◌+◌, ◌-◌, ◌*◌, List, [], ◌∷◌, ◌++◌, ltb, length, get_or, take, drop}
use Rattle.tokens.specs.declared.Token.{Token}
use Rattle.diag.specs.declared.Diagnostic.{Diagnostic}
use Rattle.assembler.specs.Rows.{rows}
use Rattle.assembler.specs.Entries.{Entry, entries_from, entries}
use Rattle.assembler.specs.Failures.{line_errors}
use Rattle.assembler.specs.Finals.{name_at, names_from, names_of, final_errors, finals_errors}
use Rattle.assembler.specs.Rules.{rule_errors}
use Rattle.diag_search.specs.declared.Pass.{Pass}
use Rattle.diag_search.specs.declared.Pass.TheVariants.{Failures, Names, Finals, Rules}
use Rattle.diag_search.specs.declared.Search.{Search}
use Rattle.diag_search.specs.Repeats.{name_errors}
use Rattle.parser.specs.ItemNumbers as items

-- the lines from an index on
abbrev pub lines_at : List Token → ℕ → List Entry
lines_at ts i = entries_from 0 i (drop i ts)

-- the indices of the names among tokens, counted from i
unfoldable pub names_in : ℕ → List Token → List ℕ
unfolding name_at
names_in i [] = []
names_in i (t ∷ ts) = name_at i t ++ names_in (suc i) ts

-- the names of the line at f that stand before the index i
unfoldable pub names_before : List Token → ℕ → ℕ → List ℕ
unfolding names_in
names_before ts f i = names_in (suc f) (take (i - suc f) (drop (suc f) ts))

-- the diagnostics of F from the index i of its line on
unfoldable pub finals_at : List ℕ → List Token → List ℕ → ℕ → List Diagnostic
unfolding names_of names_before names_from final_errors
finals_at text ts first i =
    let q = get_or first items.states 0 in
    final_errors text ts (ltb q (length ts)) (names_of ts q) (names_before ts (get_or first items.final 0) i) (names_from i (drop i ts))

-- what the search s finds in a row: the rest of its pass, and all of the later ones
unfoldable pub pending_in : List ℕ → List Token → Search → List Diagnostic
unfolding entries line_errors name_errors finals_at finals_errors rule_errors
pending_in text ts s =
    let rules = rule_errors s.tally in
    let finals = finals_errors text ts s.first ++ rules (entries ts) in
    elim s.pass [
      | Failures ↦ line_errors (lines_at ts s.at) ++ (name_errors ts s.first (entries ts) ++ finals)
      | Names ↦ name_errors ts s.first (lines_at ts s.at) ++ finals
      | Finals ↦ finals_at text ts s.first s.at ++ rules (entries ts)
      | Rules ↦ rules (lines_at ts s.at)
    ]

-- what the search s finds in a row of words
abbrev pub pending : List ℕ → List ℕ → Search → List Diagnostic
pending text w s = pending_in text (rows s.count w) s

-- how many passes follow one
abbrev pub passes_left : Pass → ℕ
passes_left Failures = 3
passes_left Names = 2
passes_left Finals = 1
passes_left Rules = 0

-- how many steps are left, at most
unfoldable pub left : Search → ℕ
left s = passes_left s.pass * (s.count + 1) + (s.count - s.at)
