-- What a reading call leaves that answers with a machine.
use Rattle.std.specs.Prelude.{ℕ, ◌≤◌, true, List, ◌≡◌, length}
use Rattle.chars.specs.Utf8.{decode}
use Rattle.lexer.specs.Tokens.{Span}
use Rattle.machine.specs.declared.Head.{Head}
use Rattle.language.specs.Machine.{Machine}
use Rattle.language.specs.Lines.{read_lines}
use Rattle.language.specs.Infer.{machine_of}
use Rattle.language.specs.Layout.{head_of, sheet_words}
use Rattle.language.specs.Outcome.{admitted, filled}

-- the machine of a text
abbrev pub machine_in : List ℕ → Machine Span
machine_in t = machine_of (read_lines (decode t))

-- a text was read as its machine: the head, and the words of a sheet
pub record ReadAs (t : List ℕ) (head : Head) (sheet : List ℕ) : Type 0 where
  pub is_admitted : admitted t ≡ true
  pub head_is : head ≡ head_of (machine_in t)
  pub sheet_is : sheet ≡ filled (sheet_words (machine_in t)) (length sheet)
  pub sheet_fits : length (sheet_words (machine_in t)) ≤ length sheet
