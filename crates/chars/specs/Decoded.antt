-- Describes the code, and no rule of a text: what its walks over the bytes answer, and what the laws ask of code points.
use Rattle.std.specs.Prelude.{ℕ, ◌+◌, ◌≡◌, ◌≤◌, List, [], ◌∷◌, Bool, true, ◌&&◌, Option, Some, None, unwrap_or, length, drop, ◌<◌, IfNone}
use Rattle.chars.specs.Utf8.{scalar, size, sizes, Front, one, bad, none, front, decode, valid_up_to}
use Rattle.chars.specs.Class.{outside_from, first_outside}

-- every member is a scalar value
unfoldable pub scalars : List ℕ → Bool
unfolding scalar
scalars [] = true
scalars (c ∷ cs) = scalar c && scalars cs

-- what stands at a place, as the code answers it: the character and the place after it; nothing where no character stands, as at
-- the end
unfoldable pub decoded_at : ℕ → Front → Option (ℕ × ℕ)
unfolding size
decoded_at at (one c) = Some (c, at + size c)
decoded_at at bad = None
decoded_at at none = None

-- what None says of the place i of the text t: inside it stand bytes that are no character, behind it nothing
abbrev pub NoneMeans : List ℕ → ℕ → Option (ℕ × ℕ) → Type 0
NoneMeans t i answer = IfNone answer ((i < length t → front (drop i t) ≡ bad) × (length t ≤ i → front (drop i t) ≡ none))

-- how far a text is UTF-8 and within the set
unfoldable pub plain_up_to : List ℕ → ℕ
unfolding first_outside valid_up_to
plain_up_to t = unwrap_or (first_outside t) (valid_up_to t)

-- from the place i of the text t to the place j stand only characters of the set: the definitions say of the text from j on what
-- they say of it from i on
pub record Passes (t : List ℕ) (i j : ℕ) : Type 0 where
  pub from : i ≤ j
  pub inside : j ≤ length t
  pub valid : j + sizes (decode (drop j t)) ≡ i + sizes (decode (drop i t))
  pub outside : outside_from j (decode (drop j t)) ≡ outside_from i (decode (drop i t))
