-- The loops over a text's characters: what the definition says of the rest is what it says of the whole.
use mathlib.Core.Path.{◌≡◌, refl, ap}
use Prim.Native.Nat.{ℕ, ◌+◌}
use native.Mathlib.Omega.{arith}
use mathlib.Core.Bool.{Bool, true, false}
use mathlib.Core.List.{List}
use lib.ListN.{drop}
use Rattle.chars.specs.Utf8.{sizes, front, decode, valid_up_to}
use Rattle.chars.specs.Decoded.{decoded_at}
use Rattle.chars.specs.Ranges.{within}
use Rattle.chars.specs.Class.{admitted, outside_from, first_outside}
use Rattle.std.specs.Prelude.{Option, Some, None}
use Rattle.chars.proofs.Laws.{char_decode, char_next, char_le, char_falls, none_decode}

pub valid_start : (t : List ℕ) → 0 + sizes (decode (drop 0 t)) ≡ valid_up_to t
unfolding valid_up_to
valid_start t = omega arith

pub outside-start : (t : List ℕ) → outside_from 0 (decode (drop 0 t)) ≡ first_outside t
unfolding first_outside
outside-start t = refl

module _ (t : List ℕ) (i : ℕ) (r : Option (ℕ × ℕ)) (s : r ≡ decoded_at i (front (drop i t))) where
  module _ (v : ℕ) (p : i + sizes (decode (drop i t)) ≡ v) where
    pub valid_on : (c n : ℕ) → r ≡ Some (c, n) → n + sizes (decode (drop n t)) ≡ v
    unfolding sizes
    valid_on c n e = omega (arith, char_next t i r s c n e, ap sizes (char_decode t i r s c n e))

    pub valid_none : r ≡ None → i ≡ v
    unfolding sizes
    valid_none e = omega (arith, ap sizes (none_decode t i r s e))

  module _ (v : Option ℕ) (p : outside_from i (decode (drop i t)) ≡ v) where
    module _ (c n : ℕ) (e : r ≡ Some (c, n)) (w : Bool) (q : w ≡ within admitted c) where
      pub outside-on : w ≡ true → outside_from n (decode (drop n t)) ≡ v
      unfolding outside_from
      outside-on h = rw (char_decode t i r s c n e, outside_from, ← q, h, ← char_next t i r s c n e) at p

      pub outside_here : w ≡ false → Some i ≡ v
      unfolding outside_from
      outside_here h = rw (char_decode t i r s c n e, outside_from, ← q, h) at p

    pub outside_none : r ≡ None → None ≡ v
    unfolding outside_from
    outside_none e = rw (none_decode t i r s e, outside_from) at p

-- what closes the goals of a scan that goes from character to character
pub ruleset valid = (char_le, char_falls, valid_start, valid_on, valid_none)

pub ruleset outside = (char_le, char_falls, outside-start, outside-on, outside_here, outside_none)
