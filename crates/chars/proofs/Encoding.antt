-- What a text begins with is the encoding of a scalar value, and an encoding begins with its scalar value.
use mathlib.Core.Path.{◌≡◌, refl, ap, subst, ◌∙◌}
use Prim.Native.Nat.{ℕ, ◌+◌, ◌-◌, ◌*◌, ◌/◌, ◌%◌, ◌≤◌, ◌<◌}
use native.Mathlib.Omega.{arith}
use mathlib.Core.Logic.{⊎_elim}
use mathlib.Core.Bool.{true, cond, ◌&&◌}
use mathlib.Core.List.{List, [], ◌∷◌}
use lib.ListN.{length, get_or, take, get_or-eq_default}
use lib.Dec.{ltb, leb, eqb}
use borrow.Author.Tests.{le-ltb, lt-ltb, ltb-true, ltb-false, leb-false, eqb-true}
use Rattle.chars.specs.Utf8.{scalar, size, encode_one, Front, one, bad, none, tail_of, form, lead, front}
use Rattle.chars.proofs.Tests.{split, lt-or-ge, and_both}

-- a code point with its size and its bytes
pub data Sized (c : ℕ) : Type 0 where
  size_1 : c < 0x80 → size c ≡ 1 → encode_one c ≡ c ∷ [] → Sized c
  size_2 : 0x80 ≤ c → c < 0x800 → size c ≡ 2 → encode_one c ≡ (0xC0 + c / 64) ∷ (0x80 + c % 64) ∷ [] → Sized c
  size_3 : 0x800 ≤ c → c < 0x10000 → size c ≡ 3 → encode_one c ≡ (0xE0 + c / 64 / 64) ∷ (0x80 + c / 64 % 64) ∷ (0x80 + c % 64) ∷ [] → Sized c
  size_4 : 0x10000 ≤ c → size c ≡ 4
      → encode_one c ≡ (0xF0 + c / 64 / 64 / 64) ∷ (0x80 + c / 64 / 64 % 64) ∷ (0x80 + c / 64 % 64) ∷ (0x80 + c % 64) ∷ [] → Sized c

pub sized : (c : ℕ) → Sized c
unfolding size encode_one
sized c =
    ⊎_elim (λ (h : c < 0x80). size_1 h (rw (lt-ltb c 0x80 h)) (rw (lt-ltb c 0x80 h)))
    (λ (g : 0x80 ≤ c). let e = le-ltb c 0x80 g in
    ⊎_elim (λ (h : c < 0x800). let p = lt-ltb c 0x800 h in size_2 g h (rw (e, p)) (rw (e, p)))
    (λ (g : 0x800 ≤ c). let f = le-ltb c 0x800 g in
    ⊎_elim (λ (h : c < 0x10000). let p = lt-ltb c 0x10000 h in size_3 g h (rw (e, f, p)) (rw (e, f, p)))
    (λ (g : 0x10000 ≤ c). let p = le-ltb c 0x10000 g in size_4 g (rw (e, f, p)) (rw (e, f, p)))
    (lt-or-ge c 0x10000)) (lt-or-ge c 0x800)) (lt-or-ge c 0x80)

-- a code point takes one to four bytes
pub size-range : (c : ℕ) → (1 ≤ size c) × (size c ≤ 4)
size-range c = go (sized c)
  where
    go : Sized c → (1 ≤ size c) × (size c ≤ 4)
    go (size_1 h e p) = omega arith
    go (size_2 g h e p) = omega arith
    go (size_3 g h e p) = omega arith
    go (size_4 g e p) = omega arith

pub length-encode_one : (c : ℕ) → length (encode_one c) ≡ size c
length-encode_one c = go (sized c)
  where
    go : Sized c → length (encode_one c) ≡ size c
    go (size_1 h e p) = rw (p, e)
    go (size_2 g h e p) = rw (p, e)
    go (size_3 g h e p) = rw (p, e)
    go (size_4 g e p) = rw (p, e)

-- ---- what a text begins with is an encoding

-- a continuation byte from its six bits
tail_inv : (x : ℕ) → tail_of x < 64 → x ≡ 0x80 + tail_of x
unfolding tail_of
tail_inv x =
    split (λ (y : ℕ). y < 64 → x ≡ 0x80 + y) (ltb x 0x80) {x = 64} {y = cond (ltb x 0xC0) (x - 0x80) 64} (λ e h. omega arith)
    (λ e. split (λ (y : ℕ). y < 64 → x ≡ 0x80 + y) (ltb x 0xC0) {x = x - 0x80} {y = 64} (λ f h. omega (arith, ltb-false x 0x80 e)) (λ f h. omega arith))

-- a continuation byte stands within the text
tail_in : (r : List ℕ) (j : ℕ) → tail_of (get_or r j 0) < 64 → j < length r
unfolding tail_of
tail_in r j h =
    ⊎_elim (λ (p : j < length r). p)
    (λ (p : length r ≤ j). absurd (omega (arith, subst (λ (x : ℕ). tail_of x < 64) (get_or-eq_default r 0 p) h)))
    (lt-or-ge j (length r))

two_bytes : (a x b c : ℕ) → 0xC0 ≤ a → b < 64 → x ≡ 0x80 + b → (a - 0xC0) * 64 + b ≡ c → size c ≡ 2 → a ∷ x ∷ [] ≡ encode_one c
two_bytes a x b c g hb ex ec n = go (sized c)
  where
    go : Sized c → a ∷ x ∷ [] ≡ encode_one c
    go (size_1 h e p) = absurd (omega arith)
    go (size_2 l h e p) = let q : 0xC0 + c / 64 ≡ a = omega arith in let r : 0x80 + c % 64 ≡ x = omega arith in rw (p, q, r)
    go (size_3 l h e p) = absurd (omega arith)
    go (size_4 l e p) = absurd (omega arith)

three-bytes : (a x y b d c : ℕ) → 0xE0 ≤ a → b < 64 → x ≡ 0x80 + b → d < 64 → y ≡ 0x80 + d → (a - 0xE0) * 4096 + b * 64 + d ≡ c → size c ≡ 3
    → a ∷ x ∷ y ∷ [] ≡ encode_one c
three-bytes a x y b d c g hb ex hd ey ec n = go (sized c)
  where
    go : Sized c → a ∷ x ∷ y ∷ [] ≡ encode_one c
    go (size_1 h e p) = absurd (omega arith)
    go (size_2 l h e p) = absurd (omega arith)
    go (size_3 l h e p) =
        let q : 0xE0 + c / 64 / 64 ≡ a = omega arith in
        let r : 0x80 + c / 64 % 64 ≡ x = omega arith in
        let s : 0x80 + c % 64 ≡ y = omega arith in
        rw (p, q, r, s)
    go (size_4 l e p) = absurd (omega arith)

four_bytes : (a x y z b d f c : ℕ) → 0xF0 ≤ a → b < 64 → x ≡ 0x80 + b → d < 64 → y ≡ 0x80 + d → f < 64 → z ≡ 0x80 + f
    → (a - 0xF0) * 262144 + b * 4096 + d * 64 + f ≡ c → size c ≡ 4 → a ∷ x ∷ y ∷ z ∷ [] ≡ encode_one c
four_bytes a x y z b d f c g hb ex hd ey hf ez ec n = go (sized c)
  where
    go : Sized c → a ∷ x ∷ y ∷ z ∷ [] ≡ encode_one c
    go (size_1 h e p) = absurd (omega arith)
    go (size_2 l h e p) = absurd (omega arith)
    go (size_3 l h e p) = absurd (omega arith)
    go (size_4 l e p) =
        let q₁ : c / 64 ≡ (a - 0xF0) * 4096 + b * 64 + d = omega arith in
        let q₂ : c / 64 / 64 ≡ (a - 0xF0) * 64 + b = omega arith in
        let q : 0xF0 + c / 64 / 64 / 64 ≡ a = omega arith in
        let r : 0x80 + c / 64 / 64 % 64 ≡ x = omega arith in
        let s : 0x80 + c / 64 % 64 ≡ y = omega arith in
        let t : 0x80 + c % 64 ≡ z = omega arith in
        rw (p, q, r, s, t)

take_1 : (r : List ℕ) → 0 < length r → take 1 r ≡ get_or r 0 0 ∷ []
take_1 [] h = absurd (omega arith)
take_1 (x ∷ r) h = refl

take_2 : (r : List ℕ) → 1 < length r → take 2 r ≡ get_or r 0 0 ∷ get_or r 1 0 ∷ []
take_2 [] h = absurd (omega arith)
take_2 (x ∷ r) h = ap (λ (l : List ℕ). x ∷ l) (take_1 r (omega arith))

take_3 : (r : List ℕ) → 2 < length r → take 3 r ≡ get_or r 0 0 ∷ get_or r 1 0 ∷ get_or r 2 0 ∷ []
take_3 [] h = absurd (omega arith)
take_3 (x ∷ r) h = ap (λ (l : List ℕ). x ∷ l) (take_2 r (omega arith))

-- what a front says of the bytes: a character's are its encoding
abbrev Good : List ℕ → Front → Type 0
Good l (one c) = (scalar c ≡ true) × (take (size c) l ≡ encode_one c) × (size c ≤ length l)
Good l bad = Unit {0}
Good l none = Unit {0}

form_good : (l : List ℕ) (n c : ℕ) → n ≤ length l → (size c ≡ n → take n l ≡ encode_one c) → Good l (form n c)
unfolding form
form_good l n c h f =
    split (Good l) (scalar c && eqb (size c) n)
    (λ e.
    let w = and_both (scalar c) (eqb (size c) n) e in
    let q : size c ≡ n = eqb-true (size c) n w.1 in
    (w.0, ap (λ (m : ℕ). take m l) q ∙ f q, omega arith))
    (λ e. tt)

low_scalar : (c : ℕ) → c < 0xD800 → scalar c ≡ true
unfolding scalar
low_scalar c h = rw (lt-ltb c 0xD800 h)

module _ (a : ℕ) (r : List ℕ) where
  lead_good : Good (a ∷ r) (lead a (tail_of (get_or r 0 0)) (tail_of (get_or r 1 0)) (tail_of (get_or r 2 0)))
  unfolding lead
  lead_good =
      let P : Front → Type 0 = Good (a ∷ r) in
      let x : ℕ = get_or r 0 0 in
      let y : ℕ = get_or r 1 0 in
      let z : ℕ = get_or r 2 0 in
      let b : ℕ = tail_of x in
      let c : ℕ = tail_of y in
      let d : ℕ = tail_of z in
      split P (ltb a 0x80) ascii λ h.
      split P (ltb a 0xC0) (λ e. tt) λ h.
      let h₀ : 0xC0 ≤ a = ltb-false a 0xC0 h in
      split P (leb 64 b) (λ e. tt) λ h.
      let hb : b < 64 = leb-false 64 b h in
      let xb : x ≡ 0x80 + b = tail_inv x hb in
      split P (ltb a 0xE0)
      (λ e. form_good (a ∷ r) 2 _ (omega (arith, tail_in r 0 hb)) λ n.
      ap (λ (l : List ℕ). a ∷ l) (take_1 r (tail_in r 0 hb)) ∙ two_bytes a x b _ h₀ hb xb refl n)
      λ h.
      let h₁ : 0xE0 ≤ a = ltb-false a 0xE0 h in
      split P (leb 64 c) (λ e. tt) λ h.
      let hc : c < 64 = leb-false 64 c h in
      let yc : y ≡ 0x80 + c = tail_inv y hc in
      split P (ltb a 0xF0)
      (λ e. form_good (a ∷ r) 3 _ (omega (arith, tail_in r 1 hc)) λ n.
      ap (λ (l : List ℕ). a ∷ l) (take_2 r (tail_in r 1 hc)) ∙ three-bytes a x y b c _ h₁ hb xb hc yc refl n)
      λ h.
      let h₂ : 0xF0 ≤ a = ltb-false a 0xF0 h in
      split P (leb 64 d) (λ e. tt) λ h.
      let hd : d < 64 = leb-false 64 d h in
      let zd : z ≡ 0x80 + d = tail_inv z hd in
      form_good (a ∷ r) 4 _ (omega (arith, tail_in r 2 hd)) λ n.
      ap (λ (l : List ℕ). a ∷ l) (take_3 r (tail_in r 2 hd)) ∙ four_bytes a x y z b c d _ h₂ hb xb hc yc hd zd refl n
    where
      ascii : ltb a 0x80 ≡ true → Good (a ∷ r) (one a)
      ascii e = go (sized a)
        where
          go : Sized a → Good (a ∷ r) (one a)
          go (size_1 h n p) = (low_scalar a (omega arith), rw (n, p), omega arith)
          go (size_2 g h n p) = absurd (omega (arith, ltb-true a 0x80 e))
          go (size_3 g h n p) = absurd (omega (arith, ltb-true a 0x80 e))
          go (size_4 g n p) = absurd (omega (arith, ltb-true a 0x80 e))

front_good : (l : List ℕ) → Good l (front l)
unfolding front
front_good [] = tt
front_good (a ∷ r) = lead_good a r

module _ (l : List ℕ) (c : ℕ) (e : front l ≡ one c) where
  pub front-scalar : scalar c ≡ true
  front-scalar = (subst (Good l) e (front_good l)).0

  pub front_bytes : take (size c) l ≡ encode_one c
  front_bytes = (subst (Good l) e (front_good l)).1

  pub front_in : size c ≤ length l
  front_in = (subst (Good l) e (front_good l)).2
