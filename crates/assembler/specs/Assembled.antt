-- Assembly as a whole: the passes over a row, and what they leave of a text.
use Rattle.std.specs.Prelude.{ℕ, ◌+◌, ◌*◌, ◌≤◌, ◌<◌, ◌≡◌, Bool, true, cond, List, ◌++◌, map, ltb, length, get_or}
use Rattle.chars.specs.Utf8.{decode}
use Rattle.lexer.specs.Tokens.{tokens}
use Rattle.lexer.specs.Words.{max_bytes}
use Rattle.tokens.specs.declared.Token.{Token}
use Rattle.parser.specs.Meaning.{token_of}
use Rattle.language.specs.Lines.{read_lines}
use Rattle.language.specs.Assembly.{diagnostics_of}
use Rattle.language.specs.Infer.{machine_of}
use Rattle.diag.specs.declared.Diagnostic.{Diagnostic}
use Rattle.diag.specs.Log.{logged, append_all}
use Rattle.assembler.specs.declared.Assembled.{Assembled}
use Rattle.assembler.specs.Rows.{rows}
use Rattle.assembler.specs.Entries.{entries}
use Rattle.assembler.specs.Entered.{entered}
use Rattle.assembler.specs.Failures.{line_errors}
use Rattle.assembler.specs.Declarations.{undeclared, declarations, declaration_errors}
use Rattle.assembler.specs.Finals.{finals_errors, Interned, Kept, Laid}
use Rattle.assembler.specs.Rules.{no_rules, rule_errors, rule_count}
use Rattle.assembler.specs.Records.{records_of}
use Rattle.parser.specs.ItemNumbers as items

-- the diagnostics of a row in the order in which they are found
unfoldable pub row_diagnostics : List ℕ → List Token → List Diagnostic
unfolding entries line_errors declaration_errors declarations finals_errors rule_errors
row_diagnostics text ts =
    let es = entries ts in
    line_errors es ++ (declaration_errors ts undeclared es ++ (finals_errors text ts (declarations (length ts) undeclared es) ++ rule_errors no_rules es))

-- where the row of first equal words stands: behind the tokens that a text of n bytes may have
abbrev pub words_from : ℕ → ℕ
words_from n = 4 * (n + 1)

-- where the marks stand: behind the row of first equal words
abbrev pub marks_from : ℕ → ℕ
marks_from n = 5 * (n + 1)

-- work is laid out for a text: tokens, row of first equal words and marks stand in it one
-- behind the other, and it has room for them
abbrev pub LaidFor : List ℕ → ℕ → List ℕ → Type 0
LaidFor text count w = Laid count (words_from (length text)) (marks_from (length text)) w × (6 * length text + 6 ≤ length w)

-- work holds the tokens of a text that is short enough, and is long enough for it
pub record Tokenized (text : List ℕ) (count : ℕ) (w : List ℕ) : Type 0 where
  pub short : length text ≤ max_bytes
  pub room : 6 * length text + 6 ≤ length w
  pub many : count ≡ length (tokens (decode text))
  pub row : rows count w ≡ map token_of (tokens (decode text))

-- the lines are entered
pub record Entered (count : ℕ) (w₀ w : List ℕ) : Type 0 where
  pub row : rows count w ≡ entered (rows count w₀)
  pub size : length w ≡ length w₀

-- whether a description may have states: it declares Q, a start or F, or it has rules
unfoldable pub has_states : ℕ → List ℕ → ℕ → Bool
has_states count first rules = cond (ltb (get_or first items.states 0) count) true (cond (ltb (get_or first items.start 0) count) true (cond (ltb (get_or first items.final 0) count) true (ltb 0 rules)))

-- the row of first equal words stands behind the tokens where it is looked at: F lists names, or of `wrong`
-- diagnostics there is none and there may be states
pub record Named (text : List ℕ) (count : ℕ) (w first : List ℕ) (wrong rules : ℕ) : Type 0 where
  pub listed : get_or first items.final 0 < count → Interned text (rows count w) (words_from (length text)) w
  pub sound : wrong ≡ 0 → has_states count first rules ≡ true → Interned text (rows count w) (words_from (length text)) w

-- the passes over a row with entries
pub record Diagnosed (text : List ℕ) (count : ℕ) (w₀ w log₀ log : List ℕ) (r : Assembled) : Type 0 where
  pub kept : Kept (words_from (length text)) w₀ w
  pub named : Named text count w r.first r.errors r.rules
  pub first : r.first ≡ declarations count undeclared (entries (rows count w₀))
  pub rules : r.rules ≡ rule_count no_rules (entries (rows count w₀))
  pub written : logged log r.errors ≡ append_all (logged log₀ 0) (row_diagnostics text (rows count w₀))

-- the outcome in the language's terms: the diagnostics in the order in which they are found, stored as far as there is room, and
-- the number of rules; for the passes above, also the row with its lines entered, the row of first equal words where F or a
-- machine needs it, and the entries of the first declarations
pub record Outcome (text : List ℕ) (count : ℕ) (w₀ w log₀ log : List ℕ) (r : Assembled) : Type 0 where
  pub errors : r.errors ≡ length (diagnostics_of (read_lines (decode text)))
  pub written : logged log r.errors ≡ append_all (logged log₀ 0) (records_of (diagnostics_of (read_lines (decode text))))
  pub rules : r.rules ≡ length (machine_of (read_lines (decode text))).rules
  pub entered : Entered count w₀ w
  pub named : Named text count w r.first r.errors r.rules
  pub first : r.first ≡ declarations count undeclared (entries (rows count w))
