-- What a text begins with at a place, by the bytes there.
use mathlib.Core.Path.{◌≡◌, refl, sym, ap, ◌∙◌}
use Prim.Native.Nat.{ℕ, suc, ◌+◌, ◌-◌, ◌*◌, ◌≤◌, ◌<◌}
use native.Mathlib.Omega.{arith}
use mathlib.Core.Bool.{Bool, true, false, cond, ◌&&◌}
use lib.Dec.{ltb, eqb}
use mathlib.Core.List.{List}
use lib.ListN.{length, get_or, take, drop, length-take, length-drop, drop_of_length-le, get_or-eq_default}
use lib.Seq.{take-length, drop-cons, get_or-drop}
use borrow.Author.Tests.{lt-ltb, le-ltb, lt-leb, le-leb, eqb-true, ltb-false}
use Rattle.chars.specs.Utf8.{scalar, size, one, bad, tail_of, form, lead, front}
use Rattle.chars.specs.Decoded.{decoded_at}
use Rattle.std.specs.Prelude.{Option, Some, None}
use Rattle.std.specs.Bool.{then_some}
use Rattle.chars.proofs.Tests.{split, and_both}

-- the front at a place comes of the four bytes from that place on
pub front_at : (t : List ℕ) (at : ℕ) → at < length t
    → front (drop at t) ≡ lead (get_or t at 0) (tail_of (get_or t (at + 1) 0)) (tail_of (get_or t (at + 2) 0)) (tail_of (get_or t (at + 3) 0))
unfolding front
front_at t at h =
    let e0 : suc at + 0 ≡ at + 1 = omega arith in
    let e1 : suc at + 1 ≡ at + 2 = omega arith in
    let e2 : suc at + 2 ≡ at + 3 = omega arith in
    rw (drop-cons t at 0 h) (simp (get_or-drop, e0, e1, e2))

pub char_at-end : (t : List ℕ) (at : ℕ) → length t ≤ at → None ≡ decoded_at at (front (drop at t))
unfolding front decoded_at
char_at-end t at h = rw (drop_of_length-le t h)

pub char_at_ascii : (t : List ℕ) (at a : ℕ) → at < length t → a ≡ get_or t at 0 → a < 0x80 → Some (a, at + 1) ≡ decoded_at at (front (drop at t))
unfolding lead decoded_at
char_at_ascii t at a h e l = rw (front_at t at h, ← e, lt-ltb a 0x80 l) (rw (lt-ltb a 0x80 l))

-- `lead`, by its tests
module _ (a b c d : ℕ) (p : 0xC0 ≤ a) where
  lead-none : 64 ≤ b → lead a b c d ≡ bad
  unfolding lead
  lead-none g = rw (le-ltb a 0x80 (omega arith), le-ltb a 0xC0 p, le-leb 64 b g)

  module _ (g : b < 64) where
    lead_two : a < 0xE0 → lead a b c d ≡ form 2 ((a - 0xC0) * 64 + b)
    unfolding lead
    lead_two u = rw (le-ltb a 0x80 (omega arith), le-ltb a 0xC0 p, lt-leb 64 b g, lt-ltb a 0xE0 u)

    lead-none_3 : 0xE0 ≤ a → 64 ≤ c → lead a b c d ≡ bad
    unfolding lead
    lead-none_3 u h = rw (le-ltb a 0x80 (omega arith), le-ltb a 0xC0 p, lt-leb 64 b g, le-ltb a 0xE0 u, le-leb 64 c h)

    lead-three : 0xE0 ≤ a → c < 64 → a < 0xF0 → lead a b c d ≡ form 3 ((a - 0xE0) * 4096 + b * 64 + c)
    unfolding lead
    lead-three u h v = rw (le-ltb a 0x80 (omega arith), le-ltb a 0xC0 p, lt-leb 64 b g, le-ltb a 0xE0 u, lt-leb 64 c h, lt-ltb a 0xF0 v)

    lead-none_4 : c < 64 → 0xF0 ≤ a → 64 ≤ d → lead a b c d ≡ bad
    unfolding lead
    lead-none_4 h v k = rw (le-ltb a 0x80 (omega arith), le-ltb a 0xC0 p, lt-leb 64 b g, le-ltb a 0xE0 (omega arith), lt-leb 64 c h, le-ltb a 0xF0 v, le-leb 64 d k)

    lead-four : c < 64 → 0xF0 ≤ a → d < 64 → lead a b c d ≡ form 4 ((a - 0xF0) * 262144 + b * 4096 + c * 64 + d)
    unfolding lead
    lead-four h v k = rw (le-ltb a 0x80 (omega arith), le-ltb a 0xC0 p, lt-leb 64 b g, le-ltb a 0xE0 (omega arith), lt-leb 64 c h, le-ltb a 0xF0 v, lt-leb 64 d k)

-- a character whose first byte, a, is above ASCII: what each way through `long_at` answers
module _ (t : List ℕ) (at a : ℕ) (h : at < length t) (e : a ≡ get_or t at 0) where
  front_led : front (drop at t) ≡ lead a (tail_of (get_or t (at + 1) 0)) (tail_of (get_or t (at + 2) 0)) (tail_of (get_or t (at + 3) 0))
  front_led = front_at t at h ∙ ap (λ (x : ℕ). lead x (tail_of (get_or t (at + 1) 0)) (tail_of (get_or t (at + 2) 0)) (tail_of (get_or t (at + 3) 0))) (sym e)

  is_bad : front (drop at t) ≡ bad → None ≡ decoded_at at (front (drop at t))
  unfolding decoded_at
  is_bad p = sym (ap (decoded_at at) p)

  pub long_none : 0x80 ≤ get_or t at 0 → a < 0xC0 → None ≡ decoded_at at (front (drop at t))
  unfolding lead
  long_none l u = is_bad (front_led ∙ rw (le-ltb a 0x80 (omega arith), lt-ltb a 0xC0 u))

  module _ (p : 0xC0 ≤ a) (b : ℕ) (eb : b ≡ tail_of (get_or t (at + 1) 0)) where
    tail_b : tail_of (get_or t (at + 1) 0) ≡ b
    tail_b = sym eb

    front_b : front (drop at t) ≡ lead a b (tail_of (get_or t (at + 2) 0)) (tail_of (get_or t (at + 3) 0))
    front_b = front_led ∙ ap (λ (y : ℕ). lead a y (tail_of (get_or t (at + 2) 0)) (tail_of (get_or t (at + 3) 0))) tail_b

    pub long_none_2 : 64 ≤ b → None ≡ decoded_at at (front (drop at t))
    long_none_2 g = is_bad (front_b ∙ lead-none a b (tail_of (get_or t (at + 2) 0)) (tail_of (get_or t (at + 3) 0)) p g)

    module _ (g : b < 64) where
      pub long_two : (v : ℕ) (r : Option (ℕ × ℕ)) → a < 0xE0 → v ≡ (a - 0xC0) * 64 + b → r ≡ decoded_at at (form 2 v) → r ≡ decoded_at at (front (drop at t))
      long_two v r u w q = q ∙ sym (ap (decoded_at at) (front_b ∙ lead_two a b (tail_of (get_or t (at + 2) 0)) (tail_of (get_or t (at + 3) 0)) p g u ∙ ap (form 2) (sym w)))

      module _ (u : 0xE0 ≤ a) (c : ℕ) (ec : c ≡ tail_of (get_or t (at + 2) 0)) where
        front_c : front (drop at t) ≡ lead a b c (tail_of (get_or t (at + 3) 0))
        front_c = front_b ∙ ap (λ (z : ℕ). lead a b z (tail_of (get_or t (at + 3) 0))) (sym ec)

        pub long_none_3 : 64 ≤ c → None ≡ decoded_at at (front (drop at t))
        long_none_3 k = is_bad (front_c ∙ lead-none_3 a b c (tail_of (get_or t (at + 3) 0)) p g u k)

        module _ (k : c < 64) where
          pub long_three : (v : ℕ) (r : Option (ℕ × ℕ)) → a < 0xF0 → v ≡ (a - 0xE0) * 4096 + b * 64 + c → r ≡ decoded_at at (form 3 v) → r ≡ decoded_at at (front (drop at t))
          long_three v r m w q = q ∙ sym (ap (decoded_at at) (front_c ∙ lead-three a b c (tail_of (get_or t (at + 3) 0)) p g u k m ∙ ap (form 3) (sym w)))

          module _ (m : 0xF0 ≤ a) (d : ℕ) (ed : d ≡ tail_of (get_or t (at + 3) 0)) where
            front_d : front (drop at t) ≡ lead a b c d
            front_d = front_c ∙ ap (λ (z : ℕ). lead a b c z) (sym ed)

            pub long_none_4 : 64 ≤ d → None ≡ decoded_at at (front (drop at t))
            long_none_4 n = is_bad (front_d ∙ lead-none_4 a b c d p g k m n)

            pub long_four : (v : ℕ) (r : Option (ℕ × ℕ)) → d < 64 → v ≡ (a - 0xF0) * 262144 + b * 4096 + c * 64 + d → r ≡ decoded_at at (form 4 v)
                → r ≡ decoded_at at (front (drop at t))
            long_four v r n w q = q ∙ sym (ap (decoded_at at) (front_d ∙ lead-four a b c d p g k m n ∙ ap (form 4) (sym w)))

pub tail_bits : (b r : ℕ) → 0x80 ≤ b → b < 0xC0 → r ≡ b - 0x80 → r ≡ tail_of b
unfolding tail_of
tail_bits b r l h e = rw (le-ltb b 0x80 l, lt-ltb b 0xC0 h) e

-- the bytes of the rest of a text, as a slice has it
module _ (t : List ℕ) (at : ℕ) (h : at ≤ length t) where
  pub rest_bytes : (j : ℕ) → get_or (take (length t - at) (drop at t)) j 0 ≡ get_or t (at + j) 0
  rest_bytes j = rw (← length-drop at t, take-length (drop at t), get_or-drop at t j 0) refl

  pub rest_long : 3 ≤ length (take (length t - at) (drop at t)) → at + 3 ≤ length t
  rest_long l = omega (arith, length-take (length t - at) (drop at t), length-drop at t)

-- no continuation byte: below 80, from C0 on, or past the end
pub tail_none : (b : ℕ) → (0x80 ≤ b → 0xC0 ≤ b) → 64 ≤ tail_of b
unfolding tail_of
tail_none b f =
    split (λ (y : ℕ). 64 ≤ y) (ltb b 0x80) {x = 64} {y = cond (ltb b 0xC0) (b - 0x80) 64} (λ e. omega arith)
    (λ e. let l : 0xC0 ≤ b = f (ltb-false b 0x80 e) in rw (le-ltb b 0xC0 l) (omega arith))

pub tail_past : (t : List ℕ) (i : ℕ) → length t ≤ i → 64 ≤ tail_of (get_or t i 0)
tail_past t i h = rw (get_or-eq_default t 0 h) (tail_none 0 (λ l. omega arith))

-- the character of a form, by the two tests on its value
pub form-char : (at n c : ℕ) → then_some (scalar c && eqb (size c) n) (c, at + n) ≡ decoded_at at (form n c)
unfolding form decoded_at
form-char at n c = go (scalar c && eqb (size c) n) refl
  where
    go : (b : Bool) → (scalar c && eqb (size c) n) ≡ b → then_some b (c, at + n) ≡ decoded_at at (cond b (one c) bad)
    go true e = let q : size c ≡ n = eqb-true (size c) n (and_both (scalar c) (eqb (size c) n) e).1 in rw q
    go false e = refl
