-- What a table of rules holds of the machine that a text was read as: describes the code.
use Rattle.std.specs.Prelude.{ℕ, ◌+◌, ◌*◌, ◌<◌, ◌≤◌, ◌≡◌, List, length, map, eqb, get_or}
use Rattle.std.specs.List.{AllByRecursion}
use Rattle.lexer.specs.Text.{same}
use Rattle.lexer.specs.Tokens.{Span}
use Rattle.language.specs.Agreement.{records, characters_at, rule_in}
use Rattle.form_theorems.specs.Read.{machine_in}
use Rattle.sheet_view.specs.Rules.{from_of, to_of, arity_of}
use Rattle.running.specs.Step.{is_final}
use Rattle.running.specs.Batch.{content_of_text}
use Rattle.runner_names_theorems.specs.Names.{NamePlace}
use Rattle.runner_rules.specs.Due.{record_at}
use Rattle.runner_rules.specs.Firsts.{first_at, before_rules, first_record, or_record, end_of}
use Rattle.runner_rules.specs.declared.search.Rules.{Rules}
use Rattle.runner_rules.specs.declared.search.Known.{Known}
use Rattle.runner_rules.specs.declared.search.Due.{Due}
use Rattle.runner_rules.specs.declared.search.Due.TheVariants.{Halted, Stuck, Applies}

-- a name of the text's machine stands at a place
abbrev pub Named : Rules → Span → Type 0
Named r place = NamePlace (machine_in r.text.now) place

-- a record of a rule: names of the machine stand at its places, and it has as many actions as the machine has tapes
pub record RecordOf (r : Rules) (ws : List ℕ) : Type 0 where
  pub from_named : Named r (from_of ws)
  pub to_named : Named r (to_of ws)
  pub arity : arity_of ws ≡ r.tapes
  pub long : 11 + 7 * r.tapes ≤ length ws

-- where an answer says that a rule applies, its record begins
abbrev pub OnRule : Rules → Due → Type 0
OnRule r Halted = Unit
OnRule r Stuck = Unit
OnRule r (Applies j) = RecordOf r (record_at r j)

-- the number of the name at a place
abbrev pub number_of : Rules → Span → ℕ
number_of r place = get_or r.numbers.now place.start 0

-- what is known of the state whose name stands at a place
pub record Knows (r : Rules) (place : Span) (k : Known) : Type 0 where
  pub at_name : k.name ≡ place
  pub named : Named r place
  pub number : k.number ≡ number_of r place
  pub first : k.first ≡ first_at r.firsts.now (number_of r place)

-- the first n records
abbrev pub records_of : Rules → ℕ → List (List ℕ)
records_of r n = records n r.words.now

-- a table holds the rules of its text's machine
pub record RulesOf (r : Rules) : Type 0 where
  -- it has as many tapes as the machine, one to three
  pub tapes : r.tapes ≡ (content_of_text r.text.now).tapes
  pub least : 1 ≤ r.tapes
  pub most : r.tapes ≤ 3
  -- the machine's rules are the records up to the end
  pub count : ℕ
  pub rules : (content_of_text r.text.now).rules ≡ map (rule_in r.text.now) (records_of r count)
  pub each : AllByRecursion (RecordOf r) (records_of r count)
  pub end : r.end ≡ end_of 0 (records_of r count)
  -- names have numbers for which the row of first rules has room, and two have the same if their characters are the same
  pub inside : (p : Span) → Named r p → p.start < length r.numbers.now
  pub low : (p : Span) → Named r p → 2 * number_of r p + 1 < length r.firsts.now
  pub same_number : (p q : Span) → Named r p → Named r q
      → eqb (number_of r p) (number_of r q) ≡ same (characters_at r.text.now p) (characters_at r.text.now q)
  -- the row says of each whether its state is final, or where the first record for it begins
  pub first : (p : Span) → Named r p → first_at r.firsts.now (number_of r p)
      ≡ or_record (before_rules (is_final (content_of_text r.text.now).states (characters_at r.text.now p)))
      (first_record r.numbers.now (number_of r p) 0 (records_of r count))
