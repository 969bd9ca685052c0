-- Runs of characters of the set: what the definitions say of a text behind one is what they say before it.
use mathlib.Core.Path.{◌≡◌, refl, sym, ap, subst, ◌∙◌}
use Prim.Native.Nat.{ℕ, zero, suc, ◌+◌, ◌-◌, ◌*◌, ◌/◌, ◌%◌, ◌≤◌, ◌<◌}
use native.Mathlib.Omega.{arith}
use native.Mathlib.Nat.{add-zero}
use mathlib.Core.Bool.{Bool, true, false, cond, not}
use lib.Dec.{leb, ltb}
use borrow.Author.Tests.{leb-false, ltb-false}
use Rattle.std.specs.List.{position_or_len, AllWithin, HoldsAt}
use Rattle.std.specs.Option.{MatchOption}
use Rattle.std.specs.Simd.{first_chunks}
use Rattle.std.proofs.lemmas.List.{get_or-take}
use Rattle.std.proofs.lemmas.Nat.{le_or_l, le_or_r}
use lib.Seq.{get_or-drop}
use mathlib.Core.List.{List, [], ◌∷◌}
use lib.Bits.{bit_or}
use lib.ListN.{length, get_or, take, drop, length-take}
use Rattle.std.specs.Prelude.{Option, Some, None, unwrap_or, position}
use Rattle.chars.specs.Utf8.{size, sizes, front, decode, valid_up_to}
use Rattle.chars.specs.Decoded.{decoded_at}
use Rattle.chars.specs.Ranges.{within}
use Rattle.chars.specs.Blocks.{ors}
use Rattle.chars.specs.Class.{admitted, outside_from, first_outside}
use Rattle.chars.specs.Decoded.{plain_up_to, Passes}
use Rattle.chars.proofs.Front.{char_at_ascii, rest_bytes}
use Rattle.chars.proofs.Laws.{char_decode, char_lt, char_le, decode-end}
use Rattle.chars.proofs.Scans.{valid_start, outside-start, valid_on, valid_none, outside-on, outside_here, outside_none}
use Rattle.chars.proofs.Encoding.{size-range}
use Rattle.chars.proofs.Theorems.{valid_le}
use Rattle.chars.proofs.Segments.{admitted_first}

-- ---- characters passed over
module _ (t : List ℕ) (i : ℕ) where
  pub passes-none : i ≤ length t → Passes t i i
  passes-none h = record { from = omega arith; inside = h; valid = refl; outside = refl }

  pub passes-more : (j k : ℕ) → Passes t i j → Passes t j k → Passes t i k
  passes-more j k p q = record { from = omega (arith, p.from, q.from); inside = q.inside; valid = q.valid ∙ p.valid; outside = q.outside ∙ p.outside }

  -- one character of the set
  pub passes-one : (c n : ℕ) → Some (c, n) ≡ decoded_at i (front (drop i t)) → within admitted c ≡ true → Passes t i n
  passes-one c n s w = record {
    from = omega (arith, char_lt t i (Some (c, n)) s c n refl);
    inside = char_le t i (Some (c, n)) s c n refl;
    valid = valid_on t i (Some (c, n)) s (i + sizes (decode (drop i t))) refl c n refl;
    outside = outside-on t i (Some (c, n)) s (outside_from i (decode (drop i t))) refl c n refl true (sym w) refl;
  }

-- ---- ASCII
admitted_ascii : (c : ℕ) → c < 0x80 → true ≡ within admitted c
admitted_ascii c u = admitted_first c 0x80 true u refl

module _ (t : List ℕ) (i : ℕ) (h : i < length t) (l : get_or t i 0 < 0x80) where
  pub ascii_decode : decode (drop i t) ≡ get_or t i 0 ∷ decode (drop (i + 1) t)
  ascii_decode = char_decode t i (Some (get_or t i 0, i + 1)) (char_at_ascii t i (get_or t i 0) h refl l) (get_or t i 0) (i + 1) refl

  pub passes-ascii : Passes t i (i + 1)
  passes-ascii = passes-one t i (get_or t i 0) (i + 1) (char_at_ascii t i (get_or t i 0) h refl l) (sym (admitted_ascii (get_or t i 0) l))

-- ---- several
pub many : (t : List ℕ) (P Q : ℕ → Type 0) → ((i : ℕ) → i < length t → Q (get_or t i 0) → P i → P (i + 1))
    → (k i : ℕ) → i + k ≤ length t → ((j : ℕ) → j < k → Q (get_or t (i + j) 0)) → P i → P (i + k)
many t P Q step zero i h f p = subst P (sym (add-zero i)) p
many t P Q step (suc k) i h f p =
    let e : i + k + 1 ≡ i + suc k = omega arith in
    subst P e (step (i + k) (omega arith) (f k (omega arith)) (many t P Q step k i (omega arith) (λ (j : ℕ) (g : j < k). f j (omega arith)) p))

-- k ASCII bytes are passed over, however many they are
pub passes-many : (t : List ℕ) (k i : ℕ) → i + k ≤ length t → ((j : ℕ) → j < k → get_or t (i + j) 0 < 0x80) → Passes t i (i + k)
passes-many t k i h f =
    many t (Passes t i) (λ (c : ℕ). c < 0x80) (λ j g l p. passes-more t i j (j + 1) p (passes-ascii t j g l)) k i h f (passes-none t i (omega arith))

-- what holds of 0 to 7 holds below 8
pub below_eight : (P : ℕ → Type 0) → P 0 → P 1 → P 2 → P 3 → P 4 → P 5 → P 6 → P 7 → (j : ℕ) → j < 8 → P j
below_eight P a b c d e f g h zero l = a
below_eight P a b c d e f g h (suc zero) l = b
below_eight P a b c d e f g h (suc (suc zero)) l = c
below_eight P a b c d e f g h (suc (suc (suc zero))) l = d
below_eight P a b c d e f g h (suc (suc (suc (suc zero)))) l = e
below_eight P a b c d e f g h (suc (suc (suc (suc (suc zero))))) l = f
below_eight P a b c d e f g h (suc (suc (suc (suc (suc (suc zero)))))) l = g
below_eight P a b c d e f g h (suc (suc (suc (suc (suc (suc (suc zero))))))) l = h
below_eight P a b c d e f g h (suc (suc (suc (suc (suc (suc (suc (suc j)))))))) l = absurd (omega arith)

-- eight bytes whose or is below 80 are ASCII
pub eight_ascii : (t : List ℕ) (i x : ℕ) → x ≡ ors t i → x < 0x80 → (j : ℕ) → j < 8 → get_or t (i + j) 0 < 0x80
unfolding ors
eight_ascii t i x e l =
    let b0 : ℕ = get_or t i 0 in
    let b1 : ℕ = get_or t (i + 1) 0 in
    let b2 : ℕ = get_or t (i + 2) 0 in
    let b3 : ℕ = get_or t (i + 3) 0 in
    let b4 : ℕ = get_or t (i + 4) 0 in
    let b5 : ℕ = get_or t (i + 5) 0 in
    let b6 : ℕ = get_or t (i + 6) 0 in
    let b7 : ℕ = get_or t (i + 7) 0 in
    let y : ℕ = bit_or b0 (bit_or b1 (bit_or b2 b3)) in
    let z : ℕ = bit_or b4 (bit_or b5 (bit_or b6 b7)) in
    let p = le_or_l y z in
    let q = le_or_r y z in
    let p1 = le_or_r b0 (bit_or b1 (bit_or b2 b3)) in
    let p2 = le_or_r b1 (bit_or b2 b3) in
    let q1 = le_or_r b4 (bit_or b5 (bit_or b6 b7)) in
    let q2 = le_or_r b5 (bit_or b6 b7) in
    let z0 : i + 0 ≡ i = omega arith in
    below_eight (λ (j : ℕ). get_or t (i + j) 0 < 0x80)
    (rw z0 (omega (arith, le_or_l b0 (bit_or b1 (bit_or b2 b3)))))
    (omega (arith, le_or_l b1 (bit_or b2 b3)))
    (omega (arith, le_or_l b2 b3))
    (omega (arith, le_or_r b2 b3))
    (omega (arith, le_or_l b4 (bit_or b5 (bit_or b6 b7))))
    (omega (arith, le_or_l b5 (bit_or b6 b7)))
    (omega (arith, le_or_l b6 b7))
    (omega (arith, le_or_r b6 b7))

-- ---- blocks of eight bytes
-- a byte of a block is one of the bytes
pub block_byte : (xs : List ℕ) (k j b : ℕ) (d : List ℕ) → j < k → b < 8 → get_or (get_or (first_chunks 8 k xs) j d) b 0 ≡ get_or xs (8 * j + b) 0
block_byte xs zero j b d h l = absurd (omega arith)
block_byte xs (suc k) zero b d h l =
    let e : b ≡ 8 * zero + b = omega arith in
    get_or-take 8 xs b 0 l ∙ ap (λ (i : ℕ). get_or xs i 0) e
block_byte xs (suc k) (suc j) b d h l =
    let e : 8 + (8 * j + b) ≡ 8 * suc j + b = omega arith in
    block_byte (drop 8 xs) k j b d (omega arith) l ∙ get_or-drop 8 xs (8 * j + b) 0 ∙ ap (λ (i : ℕ). get_or xs i 0) e

-- what holds of each byte of the first n blocks holds of the bytes before their end
pub in_blocks : (P : ℕ → Type 0) (xs : List ℕ) (k n : ℕ) → n ≤ k → ((j b : ℕ) → j < n → b < 8 → P (get_or (get_or (first_chunks 8 k xs) j []) b 0)) → (m : ℕ) → m < 8 * n → P (get_or xs m 0)
in_blocks P xs k n h f m l =
    let e : 8 * (m / 8) + m % 8 ≡ m = omega arith in
    let p = block_byte xs k (m / 8) (m % 8) [] (omega arith) (omega arith) ∙ ap (λ (i : ℕ). get_or xs i 0) e in
    subst P p (f (m / 8) (m % 8) (omega arith) (omega arith))

-- two bytes whose or is below 80 are ASCII
or_ascii : (a b : ℕ) → bit_or a b < 0x80 → (a < 0x80) × (b < 0x80)
or_ascii a b l = (omega (arith, le_or_l a b), omega (arith, le_or_r a b))

-- two bytes, and two behind an ASCII byte
module _ (t : List ℕ) (i : ℕ) where
  pub passes-two : i + 2 ≤ length t → bit_or (get_or t i 0) (get_or t (i + 1) 0) < 0x80 → Passes t i (i + 2)
  passes-two h l =
      let w = or_ascii (get_or t i 0) (get_or t (i + 1) 0) l in
      let e : i + 1 + 1 ≡ i + 2 = omega arith in
      subst (Passes t i) e (passes-more t i (i + 1) (i + 1 + 1) (passes-ascii t i (omega arith) w.0) (passes-ascii t (i + 1) (omega arith) w.1))

  pub passes-three : get_or t i 0 < 0x80 → 3 < length t - i → bit_or (get_or t (i + 1) 0) (get_or t (i + 2) 0) < 0x80 → Passes t i (i + 3)
  passes-three a h l =
      let w = or_ascii (get_or t (i + 1) 0) (get_or t (i + 2) 0) l in
      let e : i + 2 + 1 ≡ i + 3 = omega arith in
      let f : i + 1 + 1 ≡ i + 2 = omega arith in
      let p : Passes t i (i + 2) = subst (Passes t i) f (passes-more t i (i + 1) (i + 1 + 1) (passes-ascii t i (omega arith) a) (passes-ascii t (i + 1) (omega arith) w.0)) in
      subst (Passes t i) e (passes-more t i (i + 2) (i + 2 + 1) p (passes-ascii t (i + 2) (omega arith) w.1))

-- the ASCII bytes at a place, as many as there are
module _ where
  ascii_first : List ℕ → ℕ
  ascii_first xs = position_or_len (λ b. leb 0x80 b) xs

  ascii_prefix : (xs : List ℕ) → (ascii_first xs ≤ length xs) × ((j : ℕ) → j < ascii_first xs → get_or xs j 0 < 0x80)
  unfolding ascii_first
  ascii_prefix [] = (omega arith, λ j h. absurd (omega arith))
  ascii_prefix (x ∷ xs) = go (leb 0x80 x) refl (ascii_prefix xs)
    where
      go : (b : Bool) → leb 0x80 x ≡ b → (ascii_first xs ≤ length xs) × ((j : ℕ) → j < ascii_first xs → get_or xs j 0 < 0x80)
          → (cond (not b) (1 + ascii_first xs) 0 ≤ suc (length xs)) × ((j : ℕ) → j < cond (not b) (1 + ascii_first xs) 0 → get_or (x ∷ xs) j 0 < 0x80)
      go true e ih = (omega arith, λ j h. absurd (omega arith))
      go false e ih = (omega (arith, ih.0), at)
        where
          at : (j : ℕ) → j < 1 + ascii_first xs → get_or (x ∷ xs) j 0 < 0x80
          at zero h = leb-false 0x80 x e
          at (suc j) h = ih.1 j (omega arith)

position_first : (xs : List ℕ) → unwrap_or (position (λ b. leb 0x80 b) xs) (length xs) ≡ ascii_first xs
unfolding ascii_first
position_first xs = go (ltb (ascii_first xs) (length xs)) refl
  where
    go : (b : Bool) → ltb (ascii_first xs) (length xs) ≡ b → unwrap_or (cond b (Some (ascii_first xs)) None) (length xs) ≡ ascii_first xs
    go true e = refl
    go false e = omega (arith, ltb-false (ascii_first xs) (length xs) e, (ascii_prefix xs).0)

pub passes-prefix : (t : List ℕ) (i n : ℕ) → i ≤ length t
    → n ≡ unwrap_or (position (λ b. leb 0x80 b) (take (length t - i) (drop i t))) (length (take (length t - i) (drop i t))) → Passes t i (i + n)
passes-prefix t i n h q =
    let p = ascii_prefix (take (length t - i) (drop i t)) in
    let e = q ∙ position_first (take (length t - i) (drop i t)) in
    passes-many t n i (omega (arith, p.0, length-take (length t - i) (drop i t))) (λ j g. subst (λ (x : ℕ). x < 0x80) (rest_bytes t i h j) (p.1 j (omega arith)))

-- the blocks of ASCII bytes at a place, as many as there are
module _ (t : List ℕ) (i : ℕ) (h : i ≤ length t) (blocks : List (List ℕ)) (e : blocks ≡ first_chunks 8 (length (take (length t - i) (drop i t)) / 8) (take (length t - i) (drop i t)))
    (long : length blocks ≡ length (take (length t - i) (drop i t)) / 8) where
  passes-front : (n : ℕ) → n ≤ length blocks → AllWithin (λ b. ors b 0 < 0x80) blocks 0 n → Passes t i (i + 8 * n)
  passes-front n g f =
      let xs : List ℕ = take (length t - i) (drop i t) in
      let all : AllWithin (λ b. ors b 0 < 0x80) (first_chunks 8 (length xs / 8) xs) 0 n = subst (λ (bs : List (List ℕ)). AllWithin (λ b. ors b 0 < 0x80) bs 0 n) e f in
      let each = in_blocks (λ (x : ℕ). x < 0x80) xs (length xs / 8) n (omega arith) (λ j b p q. let z : 0 + b ≡ b = omega arith in rw z at (eight_ascii (get_or (first_chunks 8 (length xs / 8) xs) j []) 0 _ refl (all j [] (omega arith) p) b q)) in
      passes-many t (8 * n) i (omega (arith, length-take (length t - i) (drop i t))) (λ j p. subst (λ (x : ℕ). x < 0x80) (rest_bytes t i h j) (each j p))

  pub passes-blocks : (r : Option ℕ) → MatchOption r (AllWithin (λ b. ors b 0 < 0x80) blocks 0 (length blocks)) (λ n. (n < length blocks) × HoldsAt (λ b. 0x80 ≤ ors b 0) blocks n × AllWithin (λ b. ors b 0 < 0x80) blocks 0 n)
      → Passes t i (i + 8 * unwrap_or r (length blocks))
  passes-blocks None f = passes-front (length blocks) (omega arith) f
  passes-blocks (Some n) w = passes-front n (omega (arith, w.0)) w.2

-- ---- the loop of `plain_up_to`
module _ (t : List ℕ) (at : ℕ) (p : Passes t 0 at) where
  passed_valid : at + sizes (decode (drop at t)) ≡ valid_up_to t
  passed_valid = p.valid ∙ valid_start t

  passed_outside : outside_from at (decode (drop at t)) ≡ first_outside t
  passed_outside = p.outside ∙ outside-start t

  plain-none : None ≡ first_outside t → at ≡ valid_up_to t → at ≡ plain_up_to t
  unfolding plain_up_to
  plain-none m n = n ∙ ap (λ (o : Option ℕ). unwrap_or o (valid_up_to t)) m

  pub plain_end : length t ≤ at → at ≡ plain_up_to t
  unfolding sizes outside_from
  plain_end h =
      let d = decode-end t at h in
      plain-none (sym (ap (outside_from at) d) ∙ passed_outside) (omega (arith, ap sizes d, passed_valid))

  module _ (r : Option (ℕ × ℕ)) (s : r ≡ decoded_at at (front (drop at t))) where
    pub plain_stop : r ≡ None → at ≡ plain_up_to t
    plain_stop e = plain-none (outside_none t at r s (first_outside t) passed_outside e) (valid_none t at r s (valid_up_to t) passed_valid e)

    pub plain_here : (c n : ℕ) → r ≡ Some (c, n) → within admitted c ≡ false → at ≡ plain_up_to t
    unfolding plain_up_to
    plain_here c n e h = ap (λ (o : Option ℕ). unwrap_or o (valid_up_to t)) (outside_here t at r s (first_outside t) passed_outside c n e false (sym h) refl)

-- ---- a text that is UTF-8 and within the set to its end
outside_below : (o i : ℕ) (cs : List ℕ) → outside_from o cs ≡ Some i → i < o + sizes cs
unfolding outside_from sizes
outside_below o i [] e = let z : ◌≡◌ {A = ℕ} 0 1 = cc in absurd (omega arith)
outside_below o i (c ∷ cs) e = go (within admitted c) refl (λ x. outside_below (o + size c) i cs x)
  where
    go : (b : Bool) → within admitted c ≡ b → (outside_from (o + size c) cs ≡ Some i → i < o + size c + sizes cs) → i < o + sizes (c ∷ cs)
    go true p f = omega (arith, f (rw (outside_from, p) at e))
    go false p f = let g : Some o ≡ Some i = rw (outside_from, p) at e in let h : o ≡ i = cc in omega (arith, size-range c)

pub plain_whole : (t : List ℕ) → plain_up_to t ≡ length t → (first_outside t ≡ None) × (valid_up_to t ≡ length t)
unfolding plain_up_to
plain_whole t e = go (first_outside t) refl
  where
    go : (o : Option ℕ) → first_outside t ≡ o → (first_outside t ≡ None) × (valid_up_to t ≡ length t)
    go (Some i) p =
        let h : i < 0 + sizes (decode t) = outside_below 0 i (decode t) p in
        let g : i ≡ length t = sym (ap (λ (x : Option ℕ). unwrap_or x (valid_up_to t)) p) ∙ e in
        absurd (omega (arith, valid_le t))
    go None p = (p, sym (ap (λ (x : Option ℕ). unwrap_or x (valid_up_to t)) p) ∙ e)
