-- What the passes over tokens and states leave in their rows: describes the code.
use Rattle.std.specs.Prelude.{ℕ, zero, suc, ◌-◌, ◌*◌, ◌<◌, ◌≡◌, true, false, List, eqb, length, get_or}
use Rattle.tokens.specs.declared.Token.{Token}
use Rattle.tokens.specs.Row.{peek}
use Rattle.language.specs.Agreement.{at}

-- tokens begin one behind the other, each inside a row of so many words
pub record Rising (ts : List Token) (size : ℕ) : Type 0 where
  pub inside : (x : ℕ) → x < length ts → (peek ts x).start < size
  pub rise : (x y : ℕ) → x < y → y < length ts → (peek ts x).start < (peek ts y).start

-- where each of the first n tokens begins, a row has the token's word of another
pub record AtStarts (ts : List Token) (words row : List ℕ) (n : ℕ) : Type 0 where
  pub held : (x : ℕ) → x < n → get_or row (peek ts x).start 0 ≡ get_or words x 0

-- the number of the name of a state of the sheet
abbrev pub state_number : List ℕ → List ℕ → ℕ → ℕ
state_number sheet numbers i = get_or numbers (at sheet (3 * i)) 0

-- the names of the first n states of a sheet have numbers below `size`
pub record HaveNumbers (sheet numbers : List ℕ) (n size : ℕ) : Type 0 where
  pub inside : (i : ℕ) → i < n → at sheet (3 * i) < length numbers
  pub low : (i : ℕ) → i < n → state_number sheet numbers i < size

-- the first of n indices from i on at which f is k, or that there is none
unfoldable pub first_with : (ℕ → ℕ) → ℕ → ℕ → ℕ → ℕ
first_with f k i zero = 4294967295
first_with f k i (suc n) = elim (eqb k (f i)) [ true ↦ i | false ↦ first_with f k (suc i) n ]

-- for each number a row has the first of the states from i to before n that has it
pub record FirstStates (sheet numbers : List ℕ) (i n : ℕ) (row : List ℕ) : Type 0 where
  pub first : (k : ℕ) → k < length row → get_or row k 0 ≡ first_with (state_number sheet numbers) k i (n - i)
