-- Describes the code: it keeps a field for each of three tapes, and of so many tapes the first fields show the list that the
-- definitions are about.
use Rattle.std.specs.Prelude.{ℕ, ◌*◌, ◌≤◌, ◌<◌, List, [], ◌∷◌, take}
use Rattle.language.specs.Machine.{Dir}
use Rattle.language.specs.Agreement.{dir_of}
use Rattle.runner_tapes.specs.declared.Heads.{Heads}
use Rattle.runner_tapes.specs.declared.Symbols.{Symbols}
use Rattle.runner_tapes.specs.declared.Moves.{Moves}

-- the heads of so many tapes
unfoldable pub heads_of : ℕ → Heads → List ℕ
heads_of tapes h = take tapes (h.first ∷ h.second ∷ h.third ∷ [])

-- their symbols
unfoldable pub symbols_of : ℕ → Symbols → List ℕ
symbols_of tapes s = take tapes (s.first ∷ s.second ∷ s.third ∷ [])

-- their directions
unfoldable pub dirs_of : ℕ → Moves → List Dir
dirs_of tapes m = take tapes (dir_of m.first ∷ dir_of m.second ∷ dir_of m.third ∷ [])

-- one to three heads, each on its tape
pub record Stands (tapes half : ℕ) (h : Heads) : Type 0 where
  pub least : 1 ≤ tapes
  pub most : tapes ≤ 3
  pub first_in : h.first < 2 * half
  pub second_in : 2 ≤ tapes → h.second < 2 * half
  pub third_in : 3 ≤ tapes → h.third < 2 * half
