-- What a reader must believe of the promise: a rule line of at most n bytes, and none that reads expands to more rules.
use Rattle.std.specs.Prelude.{ℕ, ◌≤◌, ◌≡◌, Bool, true, false, ◌&&◌, not, List, [], ◌∷◌, eqb, length}
use Rattle.chars.specs.Utf8.{decode}
use Rattle.lexer.specs.Tokens.{Span}
use Rattle.language.specs.Lines.{transition_item, Line, item_line, read_lines}
use Rattle.language.specs.Assembly.{diagnostics}
use Rattle.language.specs.Infer.{machine_of}
use Rattle.language.specs.Outcome.{admitted}

-- how many rules a text expands to
unfoldable pub rules_of : List ℕ → ℕ
unfolding machine_of read_lines decode
rules_of t = length (machine_of (read_lines (decode t))).rules

-- whether bytes are a line: none of them is a line feed
abbrev pub is_line : List ℕ → Bool
is_line [] = true
is_line (b ∷ t) = not (eqb b 10) && is_line t

-- a text that is admitted and reads without a diagnostic
pub record Reads (t : List ℕ) : Type 0 where
  pub is_admitted : admitted t ≡ true
  pub no_diagnostic : diagnostics (read_lines (decode t)) ≡ []

-- whether a line is a rule, at most with a comment
abbrev pub is_rule_line : Line Span → Bool
is_rule_line (item_line (transition_item r) p c) = true
is_rule_line _ = false

-- whether a text is one line, a rule
abbrev pub is_rule : List (Line Span) → Bool
is_rule (l ∷ []) = is_rule_line l
is_rule _ = false

-- the line that is written for n bytes, and its number of rules
pub record Most (n : ℕ) (line : List ℕ) (number : ℕ) : Type 0 where
  -- at most n bytes
  pub short : length line ≤ n
  -- no line feed
  pub one_line : is_line line ≡ true
  -- a rule line
  pub rule_line : is_rule (read_lines (decode line)) ≡ true
  -- that reads
  pub reads : Reads line
  -- its number of expanded rules
  pub expands : rules_of line ≡ number
  -- every line of at most n bytes that reads expands to at most as many
  pub most : (t : List ℕ) → length t ≤ n → is_line t ≡ true → Reads t → rules_of t ≤ number
