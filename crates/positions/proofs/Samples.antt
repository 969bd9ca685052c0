-- Positions, computed: characters of one to four bytes, ends of lines, and offsets at which no character begins.
use Prim.Native.Nat.{ℕ}
use mathlib.Core.List.{List, [], ◌∷◌, map}
use mathlib.Core.Path.{◌≡◌, refl}
use Rattle.chars.specs.Utf8.{encode}
use Rattle.positions.specs.declared.Position.{Position}
use Rattle.positions.specs.Positions.{line_column}

-- an offset of a text, with the line and the column that it has
record Sample : Type 0 where
  text : List ℕ
  offset : ℕ
  line : ℕ
  column : ℕ

abbrev sample : List ℕ → ℕ → ℕ → ℕ → Sample
sample t o l c = record { text = t; offset = o; line = l; column = c }

found : Sample → Position
unfolding line_column
found s = line_column s.text s.offset

wanted : Sample → Position
wanted s = record { line = s.line; column = s.column }

-- aδ␣😀b: characters of one, two, three, four bytes and one more
abbrev mixed : List ℕ
mixed = encode (0x61 ∷ 0x3B4 ∷ 0x2423 ∷ 0x1F600 ∷ 0x62 ∷ [])

-- a line feed of its own, a tab, a carriage return, a next line of C1, a line separator, and a
abbrev spaced : List ℕ
spaced = encode (10 ∷ 9 ∷ 13 ∷ 0x85 ∷ 0x2028 ∷ 0x61 ∷ [])

abbrev samples : List Sample
samples =
    -- every character of a line is one column
    sample mixed 0 1 1 ∷ sample mixed 1 1 2 ∷ sample mixed 3 1 3 ∷ sample mixed 6 1 4 ∷ sample mixed 10 1 5 ∷ sample mixed 11 1 6 ∷
    -- an offset inside a character has that character's column
    sample mixed 2 1 2 ∷ sample mixed 4 1 3 ∷ sample mixed 5 1 3 ∷ sample mixed 9 1 4 ∷
    -- an offset behind the end has the end's
    sample mixed 12 1 6 ∷ sample mixed 4294967295 1 6 ∷ sample [] 7 1 1 ∷
    -- a line feed alone ends a line, and has the column behind the line's last character
    sample spaced 0 1 1 ∷ sample spaced 1 2 1 ∷ sample spaced 2 2 2 ∷ sample spaced 3 2 3 ∷ sample spaced 5 2 4 ∷ sample spaced 8 2 5 ∷ sample spaced 9 2 6 ∷
    -- bytes that are no UTF-8 are not counted, nor what follows them: b, FF, a, a line feed
    sample (0x62 ∷ 0xFF ∷ 0x61 ∷ 10 ∷ []) 1 1 2 ∷ sample (0x62 ∷ 0xFF ∷ 0x61 ∷ 10 ∷ []) 4 1 2 ∷
    []

table : map found samples ≡ map wanted samples
unfolding found wanted encode
table = refl
