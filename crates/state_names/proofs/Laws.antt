-- The name of a state and where it stands, one law for each return.
use mathlib.Core.Path.{◌≡◌, refl, ap, ◌∙◌}
use mathlib.Core.List.{List, []}
use Prim.Native.Nat.{ℕ, zero, suc, ◌+◌, ◌-◌, ◌*◌, ◌/◌, ◌<◌, ◌≤◌}
use native.Mathlib.Omega.{arith}
use borrow.Author.Tests.{le-leb, lt-leb}
use lib.ListN.{length, get_or, drop}
use Rattle.std.specs.Simd.{first_chunks}
use Rattle.std.proofs.lemmas.List.{get_or-take, get_or-drop}
use Rattle.lexer.specs.Places.{part, part_start}
use Rattle.language.specs.StateName.{state_name}
use Rattle.state_names.specs.Starts.{state_start}

-- the word j of the row i of three words each
pub row_word : (k i j : ℕ) (s d : List ℕ) → i < k → j < 3 → get_or (get_or (first_chunks 3 k s) i d) j 0 ≡ get_or s (3 * i + j) 0
row_word zero i j s d h g = absurd (omega arith)
row_word (suc k) zero j s d h g = let e : j ≡ 3 * 0 + j = omega arith in get_or-take 3 s j 0 g ∙ ap (λ (m : ℕ). get_or s m 0) e
row_word (suc k) (suc i) j s d h g =
    let e : 3 + (3 * i + j) ≡ 3 * suc i + j = omega arith in
    row_word k i j (drop 3 s) d (omega arith) g ∙ get_or-drop 3 s (3 * i + j) 0 ∙ ap (λ (m : ℕ). get_or s m 0) e

-- state i of the sheet s, whose rows of three words are cs; n is the text's own address
module _ (s t : List ℕ) (i n : ℕ) (cs : List (List ℕ)) (len : length cs ≡ length s / 3) where
  pub no_state : length cs ≤ i → [] ≡ state_name s t i
  unfolding state_name
  no_state h = rw (state_name, lt-leb (3 * i + 3) (length s) (omega arith))

  pub no_state-at : length cs ≤ i → n ≡ n + state_start s t i
  unfolding state_start
  no_state-at h = rw (state_start, lt-leb (3 * i + 3) (length s) (omega arith)) (omega arith)

  module _ (row : List ℕ) (is : cs ≡ first_chunks 3 (length s / 3) s) (h : i < length cs) (at : row ≡ get_or cs i row) where
    word : (j m : ℕ) → j < 3 → 3 * i + j ≡ m → get_or row j 0 ≡ get_or s m 0
    word j m g e =
        ap (λ (r : List ℕ). get_or r j 0) (at ∙ ap (λ (l : List (List ℕ)). get_or l i row) is)
        ∙ row_word (length s / 3) i j s row (omega arith) g
        ∙ ap (λ (k : ℕ). get_or s k 0) e

    pub state-part : (l : List ℕ) → l ≡ part t (get_or row 0 0) (get_or row 1 0) → l ≡ state_name s t i
    unfolding state_name
    state-part l e =
        rw (state_name, le-leb (3 * i + 3) (length s) (omega arith), ← word 0 (3 * i) (omega arith) (omega arith), ← word 1 (3 * i + 1) (omega arith) refl) e

    pub state-part-at : (m : ℕ) → m ≡ n + part_start t (get_or row 0 0) (get_or row 1 0) → m ≡ n + state_start s t i
    unfolding state_start
    state-part-at m e = rw (state_start, le-leb (3 * i + 3) (length s) (omega arith), ← word 0 (3 * i) (omega arith) (omega arith), ← word 1 (3 * i + 1) (omega arith) refl) e
