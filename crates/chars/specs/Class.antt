-- Paper 01, "Characters": the admitted set, and the classes of code points.
use Rattle.std.specs.Prelude.{ℕ, ◌+◌, List, [], ◌∷◌, true, false, Option, Some, None}
use Rattle.chars.specs.Ranges.{Range, to, Entry, rows, lookup, within}
use Rattle.chars.specs.Utf8.{size, decode}
use Rattle.chars.specs.declared.Class.{Class}
use Rattle.chars.specs.declared.Class.TheVariants.{Letter, Digit, Space, Sign, Other}

-- the set of characters that a text may have
abbrev pub admitted : List Range
admitted = to 0x0000 0x02C1 ∷ to 0x0370 0x0481 ∷ to 0x2190 0x243F ∷ []

-- the letters of the set
abbrev pub letters : List Range
letters =
    to 0x41 0x5A ∷ to 0x61 0x7A ∷ to 0xAA 0xAA ∷ to 0xB5 0xB5 ∷ to 0xBA 0xBA ∷ to 0xC0 0xD6 ∷ to 0xD8 0xF6 ∷ to 0xF8 0x2C1 ∷
    to 0x370 0x374 ∷ to 0x376 0x377 ∷ to 0x37A 0x37D ∷ to 0x37F 0x37F ∷ to 0x386 0x386 ∷ to 0x388 0x38A ∷ to 0x38C 0x38C ∷
    to 0x38E 0x3A1 ∷ to 0x3A3 0x3F5 ∷ to 0x3F7 0x481 ∷ []

-- the ASCII digits
abbrev pub digits : List Range
digits = to 0x30 0x39 ∷ []

-- white space, line feed included
abbrev pub spaces : List Range
spaces = to 0x09 0x0D ∷ to 0x20 0x20 ∷ to 0x85 0x85 ∷ to 0xA0 0xA0 ∷ []

-- the signs that the lexer names: ( ) * , = { }
abbrev pub signs : List Range
signs = to 0x28 0x2A ∷ to 0x2C 0x2C ∷ to 0x3D 0x3D ∷ to 0x7B 0x7B ∷ to 0x7D 0x7D ∷ []

-- the ranges of all classes
abbrev pub classes : List (Entry Class)
classes = rows Letter letters (rows Digit digits (rows Space spaces (rows Sign signs [])))

-- the class of a code point
unfoldable pub class_of : ℕ → Class
unfolding lookup
class_of c = lookup classes Other c

-- the place of the first code point outside the set, where the list stands at the place o
unfoldable pub outside_from : ℕ → List ℕ → Option ℕ
unfolding within size
outside_from o [] = None
outside_from o (c ∷ cs) = elim (within admitted c) [ true ↦ outside_from (o + size c) cs | false ↦ Some o ]

-- the place of the first character outside the set in a text's longest UTF-8 beginning (paper 01: refusal 4's place)
unfoldable pub first_outside : List ℕ → Option ℕ
unfolding outside_from decode
first_outside t = outside_from 0 (decode t)
