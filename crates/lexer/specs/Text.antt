-- Quoted text as a list of code points.
use Rattle.std.specs.Prelude.{ℕ, Bool, true, false, ◌&&◌, eqb}
use Prim.Native.Char.{code}
use Prim.Native.String.{String, [], ◌∷◌}
use mathlib.Core.List as L

-- the code points of a quoted text
abbrev pub codes : String → L.List ℕ
codes [] = L.[]
codes (c ∷ s) = L.◌∷◌ (code c) (codes s)

-- two lists of code points are equal
abbrev pub same : L.List ℕ → L.List ℕ → Bool
same L.[] L.[] = true
same (L.◌∷◌ x xs) (L.◌∷◌ y ys) = eqb x y && same xs ys
same _ _ = false
