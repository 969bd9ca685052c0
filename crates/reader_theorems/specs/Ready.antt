-- A text in work, assembled without a diagnostic.
use Rattle.std.specs.Prelude.{ℕ, ◌+◌, ◌*◌, ◌≤◌, ◌≡◌, true, List, [], map, length}
use Rattle.chars.specs.Utf8.{decode}
use Rattle.lexer.specs.Tokens.{tokens}
use Rattle.lexer.specs.Words.{max_bytes}
use Rattle.diag.specs.declared.Span.{Span}
use Rattle.parser.specs.Meaning.{token_of}
use Rattle.language.specs.Lines.{Line, read_lines}
use Rattle.language.specs.Assembly.{diagnostics_of}
use Rattle.language.specs.Infer.{machine_of}
use Rattle.assembler.specs.Rows.{rows}
use Rattle.assembler.specs.Entries.{entries}
use Rattle.assembler.specs.Entered.{entered}
use Rattle.assembler.specs.Declarations.{undeclared, declarations}
use Rattle.assembler.specs.Finals.{Interned}
use Rattle.assembler.specs.Assembled.{has_states, words_from}

-- the lines of a text
abbrev pub lines_of : List ℕ → List (Line Span)
lines_of t = read_lines (decode t)

-- the row with its lines entered, the row of first equal words behind it where there may be states, and the first declarations
pub record Ready (text : List ℕ) (count : ℕ) (w first : List ℕ) : Type 0 where
  pub short : length text ≤ max_bytes
  pub room : 6 * length text + 6 ≤ length w
  pub many : count ≡ length (tokens (decode text))
  pub row : rows count w ≡ entered (map token_of (tokens (decode text)))
  pub names : has_states count first (length (machine_of (lines_of text)).rules) ≡ true → Interned text (rows count w) (words_from (length text)) w
  pub declared : first ≡ declarations count undeclared (entries (rows count w))
  pub none_found : diagnostics_of (lines_of text) ≡ []
