-- Each number has its direction, and each direction its letter.
use mathlib.Core.Path.{◌≡◌, refl}
use Prim.Native.Nat.{ℕ, zero, suc, ◌<◌}
use native.Mathlib.Omega.{arith}
use Rattle.language.specs.Machine.{Dir, left, right, stay}
use Rattle.language.specs.Agreement.{dir_of}
use Rattle.language.specs.Plain.{dir_code}
use Rattle.sheet_view.specs.declared.direction.Direction.{Direction}
use Rattle.sheet_view.specs.declared.direction.Direction.TheVariants.{Left, Right, Stay}
use Rattle.sheet_view.specs.Directions.{dir_in}

pub dir_left : (n : ℕ) → n ≡ 0 → left ≡ dir_of n
dir_left n e = rw e

pub dir_right : (n : ℕ) → n ≡ 1 → right ≡ dir_of n
dir_right n e = rw e

pub dir_stay : (n : ℕ) → (n ≡ 0 → ⊥) → (n ≡ 1 → ⊥) → stay ≡ dir_of n
dir_stay zero h k = absurd (h refl)
dir_stay (suc zero) h k = absurd (k refl)
dir_stay (suc (suc n)) h k = refl

pub ruleset directions = (dir_left, dir_right, dir_stay)

pub letter_left : (d : Direction) → d ≡ Left → 0x4C ≡ dir_code (dir_in d)
letter_left d e = rw e

pub letter_right : (d : Direction) → d ≡ Right → 0x52 ≡ dir_code (dir_in d)
letter_right d e = rw e

pub letter_stay : (d : Direction) → d ≡ Stay → 0x4E ≡ dir_code (dir_in d)
letter_stay d e = rw e

-- letters are in ASCII
pub letter_ascii : (d : Dir) → dir_code d < 0x80
letter_ascii left = omega arith
letter_ascii right = omega arith
letter_ascii stay = omega arith

pub ruleset letters = (letter_left, letter_right, letter_stay)
