-- What the search for a rule goes by: describes the code.
use Rattle.std.specs.Prelude.{ℕ, ◌+◌, ◌*◌, ◌≤◌, ◌≡◌, Bool, ◌&&◌, eqb, Option, None, Some}
use Rattle.std.specs.Prelude.{List, [], ◌∷◌, length, map, find, take, drop}
use Rattle.std.specs.List.{AllByRecursion}
use Rattle.lexer.specs.Text.{same}
use Rattle.lexer.specs.Tokens.{Span}
use Rattle.language.specs.Content.{RuleContent}
use Rattle.language.specs.Agreement.{records, characters_at, rule_in}
use Rattle.sheet_view.specs.Rules.{read_of}
use Rattle.running.specs.Step.{matches}
use Rattle.running.specs.Run as Run
use Rattle.running.specs.Batch.{content_of_text}
use Rattle.runner_rules.specs.Firsts.{number_in, end_of}
use Rattle.runner_rules.specs.Rules.{RecordOf}
use Rattle.runner_rules.specs.declared.search.Rules.{Rules}

-- the record that stands at the front of some words has its actions among them
abbrev pub HasActions : Rules → List ℕ → Type 0
HasActions r ws = 11 + 7 * r.tapes ≤ length ws

-- the codes that a record of so many tapes reads
abbrev pub reads_of : ℕ → List ℕ → List ℕ
reads_of tapes ws = take tapes (read_of ws 0 ∷ read_of ws 1 ∷ read_of ws 2 ∷ [])

-- whether the record that stands at the front of some words is for a number, and reads these symbols
abbrev pub is_match : Rules → ℕ → List ℕ → List ℕ → Bool
is_match r number symbols ws = same symbols (reads_of r.tapes ws) && eqb number (number_in r.numbers.now ws)

-- the first of some rules that matches the name at a place and symbols
abbrev pub match_in : Rules → Span → List ℕ → List RuleContent → Option RuleContent
match_in r place symbols rules = find (matches (characters_at r.text.now place) symbols) rules

-- the first rule of the machine that does
abbrev pub first_match : Rules → Span → List ℕ → Option RuleContent
first_match r place symbols = match_in r place symbols (content_of_text r.text.now).rules

-- what is due, by the first rule that matches
abbrev pub due_by : Option RuleContent → Run.Due
due_by None = Run.stops Run.stuck
due_by (Some rule) = Run.applies rule

-- so many records are left from a word on, up to the rules' end, and the first that matches among them is the machine's
pub record Ahead (r : Rules) (place : Span) (symbols : List ℕ) (at : ℕ) : Type 0 where
  pub left : ℕ
  pub each : AllByRecursion (RecordOf r) (records left (drop at r.words.now))
  pub end : r.end ≡ end_of at (records left (drop at r.words.now))
  pub matched : match_in r place symbols (map (rule_in r.text.now) (records left (drop at r.words.now)))
      ≡ first_match r place symbols
