-- Texts at the bounds of RFC 3629 and of paper 01's set, computed.
use mathlib.Core.Path.{◌≡◌, refl}
use Prim.Native.Nat.{ℕ}
use mathlib.Core.Bool.{Bool, true, ◌&&◌, ◌||◌}
use mathlib.Core.List.{List, [], ◌∷◌, map}
use lib.Dec.{ltb, leb}
use Rattle.chars.specs.Utf8.{decode, valid_up_to, encode}
use Rattle.chars.specs.Ranges.{Entry, row}
use Rattle.chars.specs.Class.{classes, first_outside}
use Rattle.std.specs.Prelude.{Some, None}

-- a text, its code points and the length of its longest UTF-8 beginning
record Sample : Type 0 where
  text : List ℕ
  points : List ℕ
  valid : ℕ

abbrev sample : List ℕ → List ℕ → ℕ → Sample
sample t cs n = record { text = t; points = cs; valid = n }

abbrev computed : Sample → Sample
computed s = sample s.text (decode s.text) (valid_up_to s.text)

abbrev samples : List Sample
samples =
    sample [] [] 0 ∷
    -- the first and the last of each size
    sample (0x00 ∷ 0x7F ∷ []) (0x00 ∷ 0x7F ∷ []) 2 ∷
    sample (0xC2 ∷ 0x80 ∷ 0xDF ∷ 0xBF ∷ []) (0x80 ∷ 0x7FF ∷ []) 4 ∷
    sample (0xE0 ∷ 0xA0 ∷ 0x80 ∷ 0xEF ∷ 0xBF ∷ 0xBF ∷ []) (0x800 ∷ 0xFFFF ∷ []) 6 ∷
    sample (0xF0 ∷ 0x90 ∷ 0x80 ∷ 0x80 ∷ 0xF4 ∷ 0x8F ∷ 0xBF ∷ 0xBF ∷ []) (0x10000 ∷ 0x10FFFF ∷ []) 8 ∷
    -- the neighbours of the surrogates, and the surrogates
    sample (0xED ∷ 0x9F ∷ 0xBF ∷ 0xEE ∷ 0x80 ∷ 0x80 ∷ []) (0xD7FF ∷ 0xE000 ∷ []) 6 ∷
    sample (0x61 ∷ 0xED ∷ 0xA0 ∷ 0x80 ∷ []) (0x61 ∷ []) 1 ∷
    sample (0xED ∷ 0xBF ∷ 0xBF ∷ []) [] 0 ∷
    -- overlong forms
    sample (0x61 ∷ 0xC0 ∷ 0x80 ∷ []) (0x61 ∷ []) 1 ∷
    sample (0xC1 ∷ 0xBF ∷ []) [] 0 ∷
    sample (0xE0 ∷ 0x9F ∷ 0xBF ∷ []) [] 0 ∷
    sample (0xF0 ∷ 0x8F ∷ 0xBF ∷ 0xBF ∷ []) [] 0 ∷
    -- above 10FFFF, and bytes that begin nothing
    sample (0xF4 ∷ 0x90 ∷ 0x80 ∷ 0x80 ∷ []) [] 0 ∷
    sample (0xF8 ∷ 0x88 ∷ 0x80 ∷ 0x80 ∷ 0x80 ∷ []) [] 0 ∷
    sample (0xFF ∷ []) [] 0 ∷
    sample (0x61 ∷ 0x80 ∷ 0x62 ∷ []) (0x61 ∷ []) 1 ∷
    -- a character cut off, by the end and by another
    sample (0xCE ∷ 0xB4 ∷ 0xE2 ∷ 0x90 ∷ []) (0x3B4 ∷ []) 2 ∷
    sample (0xE2 ∷ 0x90 ∷ 0x61 ∷ []) [] 0 ∷
    []

all-samples : map computed samples ≡ samples
unfolding decode valid_up_to
all-samples = refl

-- both ends of the set's three parts, and their neighbours outside
abbrev borders : List ℕ
borders = 0x2C1 ∷ 0x2C2 ∷ 0x36F ∷ 0x370 ∷ 0x481 ∷ 0x482 ∷ 0x218F ∷ 0x2190 ∷ 0x243F ∷ 0x2440 ∷ []

border_samples : map (λ (c : ℕ). first_outside (encode (0x61 ∷ c ∷ []))) borders ≡ None ∷ Some 1 ∷ Some 1 ∷ None ∷ None ∷ Some 1 ∷ Some 1 ∷ None ∷ None ∷ Some 1 ∷ []
unfolding first_outside encode
border_samples = refl

-- no two ranges of a table share a code point, and none is empty: the order of its rows does not count
abbrev apart : {A : Type 0} → ℕ → ℕ → List (Entry A) → Bool
apart lo hi [] = true
apart lo hi (row a b k ∷ r) = (ltb hi a || ltb b lo) && apart lo hi r

abbrev disjoint : {A : Type 0} → List (Entry A) → Bool
disjoint [] = true
disjoint (row a b k ∷ r) = leb a b && apart a b r && disjoint r

classes_disjoint : disjoint classes ≡ true
classes_disjoint = refl
