-- Characters noted one after the other, each once: a list of codes that stands in a row of work.
use Rattle.std.specs.Prelude.{ℕ, ◌+◌, ◌-◌, ◌*◌, ◌/◌, ◌%◌, ◌≤◌, ◌<◌, min, ◌≡◌, Bool, true, false, cond, ◌&&◌, List, [], ◌∷◌, ◌++◌, eqb, ltb, length, get_or, take}
use Rattle.language.specs.Infer.{member}

-- codes with one more character, if it is not there yet
unfoldable pub noted : List ℕ → ℕ → List ℕ
unfolding member
noted cs c = cond (member eqb cs c) cs (cs ++ c ∷ [])

-- codes with some characters more, each once
unfoldable pub noted_all : List ℕ → List ℕ → List ℕ
unfolding noted
noted_all cs [] = cs
noted_all cs (x ∷ xs) = noted_all (noted cs x) xs

-- ---- hints: the last words of a row say which characters are noted
-- how many hints there are for a text of n bytes: so few for a short one that they are soon cleared
unfoldable pub hints : ℕ → ℕ
hints n = min (n / 2) 2048

-- how far from the last word a character's hint stands: each admitted character has a place of its own
unfoldable pub slot : ℕ → ℕ
slot c = (c + c / 8192 * 768) % 2048

-- the hint of c is looked at, of t hints behind n codes in the row r: there is one, and
-- room for a code more in front of all hints
pub record Looked (t n : ℕ) (r : List ℕ) (c : ℕ) : Type 0 where
  pub one : slot c < t
  pub room : n + t < length r

-- the word that is the hint of c; where it is looked at, 0 says that c is not noted, unless c is 0 itself
abbrev pub hint_of : List ℕ → ℕ → ℕ
hint_of r c = get_or r (length r - 1 - slot c) 0

-- the hint of c, of t hints behind n codes in the row r, is looked at and is c
unfoldable pub shown : ℕ → ℕ → List ℕ → ℕ → Bool
unfolding slot
shown t n r c = cond (ltb (slot c) t && ltb (n + t) (length r)) (eqb (hint_of r c) c) false

-- while there is room, each hint other than 0 is a character that is noted, and the hint
-- of each that is noted, but of 0, is not 0
pub record Hinted (t n : ℕ) (r : List ℕ) : Type 0 where
  pub right : n + t < length r → (i : ℕ) → length r ≤ i + t → (get_or r i 0 ≡ 0 → ⊥) → member eqb (take n r) (get_or r i 0) ≡ true
  pub full : (c : ℕ) → Looked t n r c → (c ≡ 0 → ⊥) → member eqb (take n r) c ≡ true → hint_of r c ≡ 0 → ⊥
