-- The row of first rules, two words for each number of a name: describes the code.
use Rattle.std.specs.Prelude.{ℕ, ◌+◌, ◌*◌, ◌<◌, ◌≡◌, Bool, true, false, List, [], ◌∷◌, length, eqb, get_or}
use Rattle.sheet_view.specs.Rules.{length_of, from_of}
use Rattle.runner_names.specs.Numbers.{final_at}
use Rattle.runner_rules.specs.declared.firsts.First.{First}
use Rattle.runner_rules.specs.declared.firsts.First.TheVariants.{Final, NoRule, At}

-- ---- the row

-- the high word of what is no rule
abbrev pub nowhere : ℕ
nowhere = 4294967295

-- two words: low and high word of where a rule begins; or that there is none, and whether the state is final
unfoldable pub first_in : ℕ → ℕ → First
first_in low high = elim (eqb high nowhere) [
  | true ↦ elim (eqb low 1) [ true ↦ Final | false ↦ NoRule ]
  | false ↦ At (low + 4294967296 * high)
]

-- what a row says of a number
abbrev pub first_at : List ℕ → ℕ → First
first_at row k = first_in (get_or row (2 * k) 0) (get_or row (2 * k + 1) 0)

-- whether it says that there is no rule
abbrev pub is_no_rule : First → Bool
is_no_rule Final = false
is_no_rule NoRule = true
is_no_rule (At i) = false

-- a row says something else of one number
pub record Says (k : ℕ) (first : First) (old new : List ℕ) : Type 0 where
  pub here : first_at new k ≡ first
  pub others : (i : ℕ) → (i ≡ k → ⊥) → first_at new i ≡ first_at old i

-- ---- states

-- what is said of a state before its rules are looked for
abbrev pub before_rules : Bool → First
before_rules true = Final
before_rules false = NoRule

-- a row says of each of n numbers whether the state at its position is final
abbrev pub SaysStates : List ℕ → List ℕ → List ℕ → ℕ → Type 0
SaysStates sheet positions row n = (k : ℕ) → k < n → first_at row k ≡ before_rules (final_at sheet (get_or positions k 0))

-- ---- rules

-- the number of the name of the state that a record is for
abbrev pub number_in : List ℕ → List ℕ → ℕ
number_in numbers ws = get_or numbers (from_of ws).start 0

-- that name has a number, and a row of so many words has room for it
abbrev pub HasNumber : List ℕ → ℕ → List ℕ → Type 0
HasNumber numbers size ws = ((from_of ws).start < length numbers) × (2 * number_in numbers ws + 1 < size)

-- where the first of some records for a number begins, the first of them at j
unfoldable pub first_record : List ℕ → ℕ → ℕ → List (List ℕ) → First
first_record numbers k j [] = NoRule
first_record numbers k j (ws ∷ l) =
    elim (eqb k (number_in numbers ws)) [ true ↦ At j | false ↦ first_record numbers k (j + length_of ws) l ]

-- what is said of a number, and if that is no rule, where the first of some records for it begins
abbrev pub or_record : First → First → First
or_record Final first = Final
or_record NoRule first = first
or_record (At i) first = At i

-- where records end
unfoldable pub end_of : ℕ → List (List ℕ) → ℕ
end_of j [] = j
end_of j (ws ∷ l) = end_of (j + length_of ws) l

-- a row says of each number what it said, and if that was no rule, where the first of some records for it begins
abbrev pub SaysRules : List ℕ → List (List ℕ) → List ℕ → List ℕ → Type 0
SaysRules numbers l old new =
    (k : ℕ) → 2 * k + 1 < length old → first_at new k ≡ or_record (first_at old k) (first_record numbers k 0 l)
