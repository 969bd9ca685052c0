-- Describes the code: what it leaves in work, a number for each name of a machine that was read, and for each number a state.
use Rattle.std.specs.Prelude.{ℕ, ◌+◌, ◌*◌, ◌<◌, ◌≡◌, Bool, not, ◌&&◌, List, eqb, length, get_or, position, unwrap_or}
use Rattle.chars.specs.Utf8.{decode}
use Rattle.lexer.specs.Text.{same}
use Rattle.lexer.specs.Tokens.{Span}
use Rattle.language.specs.Content.{StateContent}
use Rattle.language.specs.Agreement.{at, characters_at}
use Rattle.form_theorems.specs.Read.{machine_in}
use Rattle.running.specs.Batch.{content_of_text}
use Rattle.runner_names_theorems.specs.Names.{NamePlace, WordPlace}

-- the number of the name at a place: the word for its first byte in the last of six rows, which have a word for each byte and one
-- for the text's end
abbrev pub number_at : List ℕ → List ℕ → Span → ℕ
number_at text work place = get_or work (5 * (length text + 1) + place.start) 0

-- each name has a number, no higher than the text is long; two have the same number if their characters are the same
pub record Numbered (IsName : Span → Type 0) (text work : List ℕ) : Type 0 where
  pub inside : (p : Span) → IsName p → p.start < length text + 1
  pub low : (p : Span) → IsName p → number_at text work p < length text + 1
  pub same_number : (p q : Span) → IsName p → IsName q
      → eqb (number_at text work p) (number_at text work q) ≡ same (characters_at text p) (characters_at text q)

-- the words of a text have numbers
abbrev pub WordsNumbered : List ℕ → List ℕ → Type 0
WordsNumbered text work = Numbered (WordPlace (decode text)) text work

-- the position of the first state of a name, 4294967295 if there is none
abbrev pub first_state : List StateContent → List ℕ → ℕ
first_state states name = unwrap_or (position (λ s. same name s.name) states) 4294967295

-- whether the state at a position is final, by the words of a sheet; where there is no position it is not
abbrev pub final_at : List ℕ → ℕ → Bool
final_at sheet i = not (eqb i 4294967295) && eqb (at sheet (3 * i + 2)) 1

-- the names of the machine of a text have numbers, and the word at a number is the position of the first state of that name
pub record NamesNumbered (text work : List ℕ) : Type 0 where
  pub numbers : Numbered (NamePlace (machine_in text)) text work
  pub states : (p : Span) → NamePlace (machine_in text) p
      → get_or work (number_at text work p) 0 ≡ first_state (content_of_text text).states (characters_at text p)
