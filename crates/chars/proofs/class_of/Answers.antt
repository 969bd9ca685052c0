-- Answers for `chars::class_of`: at each `return` the tests that led there bound a segment, over which the table gives one class.
use mathlib.Core.Path.{◌≡◌, refl, sym}
use Prim.Native.Nat.{ℕ, ◌≤◌, ◌<◌, zero-le}
use mathlib.Core.List.{List, [], ◌∷◌, ◌++◌}
use mathlib.Core.Option.{some}
use Rattle.std.proofs.Common.{rules}
use types.Run.{OneOf}
use Rattle.chars.specs.Class.{classes, class_of}
use Rattle.chars.specs.declared.Class.{Class}
use Rattle.chars.specs.declared.Class.TheVariants.{Letter, Space, Sign, Other}
use Rattle.chars.proofs.Segments.{over, one_over, no_more, no_none, all_of}
use Rattle.chars.proofs.class_of.Goals as goal

-- the code points that stand alone in an arm
abbrev letter : List ℕ
letter = 0xAA ∷ 0xB5 ∷ 0xBA ∷ 0x37F ∷ 0x386 ∷ 0x38C ∷ []

abbrev spaced : List ℕ
spaced = 0x20 ∷ 0x85 ∷ 0xA0 ∷ []

abbrev signed : List ℕ
signed = 0x2C ∷ 0x3D ∷ 0x7B ∷ 0x7D ∷ []

abbrev alone : List ℕ
alone = letter ++ (spaced ++ signed)

segment : (c lo hi : ℕ) (k : Class) → (OneOf letter c → ⊥) → (OneOf spaced c → ⊥) → (OneOf signed c → ⊥) → lo ≤ c → c < hi
    → over classes Other alone lo hi ≡ some k → k ≡ class_of c
unfolding class_of
segment c lo hi k f g h l u e =
    sym (one_over c Other alone (no_more c letter (spaced ++ signed) f (no_more c spaced signed g (no_more c signed [] h (no_none c)))) lo hi l u classes k e)

first : (c hi : ℕ) (k : Class) → (OneOf letter c → ⊥) → (OneOf spaced c → ⊥) → (OneOf signed c → ⊥) → c < hi → over classes Other alone 0 hi ≡ some k → k ≡ class_of c
first c hi k f g h u e = segment c 0 hi k f g h zero-le u e

is_letter_lem : (c : ℕ) → OneOf letter c → Letter ≡ class_of c
unfolding class_of
is_letter_lem = all_of (λ (x : ℕ). Letter ≡ class_of x) letter (refl, (refl, (refl, (refl, (refl, (refl, tt))))))

is_space_lem : (c : ℕ) → OneOf spaced c → Space ≡ class_of c
unfolding class_of
is_space_lem = all_of (λ (x : ℕ). Space ≡ class_of x) spaced (refl, (refl, (refl, tt)))

is_sign_lem : (c : ℕ) → OneOf signed c → Sign ≡ class_of c
unfolding class_of
is_sign_lem = all_of (λ (x : ℕ). Sign ≡ class_of x) signed (refl, (refl, (refl, (refl, tt))))

ruleset by_segment = (rules, segment, first, is_letter_lem, is_space_lem, is_sign_lem)

pub returns-in-48-to-57 : goal.returns-in-48-to-57
returns-in-48-to-57 c = search by_segment

pub returns-in_default : goal.returns-in_default
returns-in_default c = search by_segment

pub returns-in_default-2 : goal.returns-in_default-2
returns-in_default-2 c = search by_segment

pub returns-in_default-3 : goal.returns-in_default-3
returns-in_default-3 c = search by_segment

pub returns-in_default-4 : goal.returns-in_default-4
returns-in_default-4 c = search by_segment

pub returns-in_default-5 : goal.returns-in_default-5
returns-in_default-5 c = search by_segment

pub returns-in_default-6 : goal.returns-in_default-6
returns-in_default-6 c = search by_segment

pub returns-in_default-7 : goal.returns-in_default-7
returns-in_default-7 c = search by_segment

pub returns-in_default-8 : goal.returns-in_default-8
returns-in_default-8 c = search by_segment

pub returns-in_default-9 : goal.returns-in_default-9
returns-in_default-9 c = search by_segment

pub returns-in_default-10 : goal.returns-in_default-10
returns-in_default-10 c = search by_segment

pub returns-in_default-11 : goal.returns-in_default-11
returns-in_default-11 c = search by_segment

pub returns-in_default-12 : goal.returns-in_default-12
returns-in_default-12 c = search by_segment

pub returns-in_default-13 : goal.returns-in_default-13
returns-in_default-13 c = search by_segment

pub returns-in_default-14 : goal.returns-in_default-14
returns-in_default-14 c = search by_segment

pub returns-in_default-15 : goal.returns-in_default-15
returns-in_default-15 c = search by_segment

pub returns-in_default-16 : goal.returns-in_default-16
returns-in_default-16 c = search by_segment

pub returns-in-65-to-90 : goal.returns-in-65-to-90
returns-in-65-to-90 c = search by_segment

pub returns-in-65-to-90-2 : goal.returns-in-65-to-90-2
returns-in-65-to-90-2 c = search by_segment

pub returns-in-65-to-90-3 : goal.returns-in-65-to-90-3
returns-in-65-to-90-3 c = search by_segment

pub returns-in-65-to-90-4 : goal.returns-in-65-to-90-4
returns-in-65-to-90-4 c = search by_segment

pub returns-in-65-to-90-5 : goal.returns-in-65-to-90-5
returns-in-65-to-90-5 c = search by_segment

pub returns-in-65-to-90-6 : goal.returns-in-65-to-90-6
returns-in-65-to-90-6 c = search by_segment

pub returns-in-65-to-90-7 : goal.returns-in-65-to-90-7
returns-in-65-to-90-7 c = search by_segment

pub returns-in-65-to-90-8 : goal.returns-in-65-to-90-8
returns-in-65-to-90-8 c = search by_segment

pub returns-in-65-to-90-9 : goal.returns-in-65-to-90-9
returns-in-65-to-90-9 c = search by_segment

pub returns-in-65-to-90-10 : goal.returns-in-65-to-90-10
returns-in-65-to-90-10 c = search by_segment

pub returns-in-65-to-90-11 : goal.returns-in-65-to-90-11
returns-in-65-to-90-11 c = search by_segment

pub returns-in-65-to-90-12 : goal.returns-in-65-to-90-12
returns-in-65-to-90-12 c = search by_segment

pub returns-in-65-to-90-13 : goal.returns-in-65-to-90-13
returns-in-65-to-90-13 c = search by_segment

pub returns-in-40-to-42 : goal.returns-in-40-to-42
returns-in-40-to-42 c = search by_segment

pub returns-in-40-to-42-2 : goal.returns-in-40-to-42-2
returns-in-40-to-42-2 c = search by_segment

pub returns-in-9-to-13 : goal.returns-in-9-to-13
returns-in-9-to-13 c = search by_segment

pub returns-in-9-to-13-2 : goal.returns-in-9-to-13-2
returns-in-9-to-13-2 c = search by_segment
