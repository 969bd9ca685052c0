-- The sheet of a machine, as the code writes it.
use Rattle.std.specs.Prelude.{ℕ, ◌+◌, ◌/◌, ◌≡◌, List, ◌++◌, length}
use Rattle.machine.specs.declared.Counts.{Counts}
use Rattle.language.specs.Infer.{machine_of}
use Rattle.tokens.specs.Listed.{tokens_of}
use Rattle.assembler.specs.declared.Assembled.{Assembled}
use Rattle.assembler.specs.Assembled.{words_from}
use Rattle.infer.specs.States.{state_section}
use Rattle.reader_theorems.specs.Ready.{lines_of, Ready}
use Rattle.reader_theorems.specs.Sections.{Sections, sections_of}
use Rattle.reader.specs.declared.sections.Source.{Source}

-- a text in work that was assembled without a diagnostic, and what assembling it gave
pub record Assembles (text : List ℕ) (count : ℕ) (w : List ℕ) (a : Assembled) : Type 0 where
  pub ready : Ready text count w a.first
  pub rules : a.rules ≡ length (machine_of (lines_of text)).rules

-- work, of which these words stand behind those for the tokens
abbrev pub work_of : Source → List ℕ → List ℕ
work_of s row = s.tokens.words.now ++ row

-- an assembled text whose work is in two parts: the words for the tokens, and those behind them
pub record Parted (s : Source) (row : List ℕ) : Type 0 where
  pub cut : length s.tokens.words.now ≡ words_from (length s.text.now)
  pub assembles : Assembles s.text.now s.tokens.count (work_of s row) s.assembled.now

-- the sections of a source, with the blank b
abbrev pub sections_in : Source → ℕ → List ℕ → Sections
sections_in s b row = sections_of s.text.now b (tokens_of s.tokens) s.assembled.now.first (work_of s row)

-- the section of states of a source
abbrev pub states_in : Source → List ℕ → List ℕ
states_in s row = state_section (length s.text.now + 1) (tokens_of s.tokens) s.assembled.now.first (work_of s row)

-- how many members the sections have, of three words each or two; and n rules
abbrev pub counts_of : Sections → ℕ → Counts
counts_of s n = record {
  states = length s.states / 3;
  sigma = length s.sigma / 3;
  gamma = length s.gamma / 3;
  finals = length s.finals / 2;
  header = length s.header / 2;
  trailing = length s.trailing / 2;
  rules = n;
}
