-- Characters of two and three bytes: what their bytes tell is what the definition says.
use mathlib.Core.Path.{◌≡◌, refl, sym, ap, ◌∙◌}
use Prim.Native.Nat.{ℕ, ◌+◌, ◌-◌, ◌*◌, ◌/◌, ◌%◌, ◌≤◌, ◌<◌}
use native.Mathlib.Omega.{arith}
use mathlib.Core.Bool.{Bool, true, false, cond, ◌&&◌, ◌||◌}
use mathlib.Core.List.{List, [], ◌∷◌}
use mathlib.Core.Logic.{◌⊎◌, inl, inr, ⊎_elim}
use mathlib.Core.Option.{some}
use lib.Dec.{ltb, leb}
use lib.ListN.{length, get_or, take, drop, length-take, length-drop}
use lib.Seq.{drop-cons, get_or-drop}
use Rattle.std.proofs.lemmas.List.{get_or-take}
use Rattle.std.proofs.lemmas.List.Sums.{take_while-cons}
use borrow.Author.Tests.{lt-ltb, le-ltb, le-leb, ltb-true, leb-true, eq-eqb}
use Rattle.std.specs.Prelude.{Option, Some, None, IfSome, IfNone, take_while}
use Rattle.std.specs.Ordering.{is_le, is_lt, nat_cmp}
use Rattle.std.proofs.lemmas.Map.Keys.{le_from_is_le}
use Rattle.std.proofs.lemmas.Cmp.{ranked, by_ranked}
use Rattle.std.specs.Bool.{then_some}
use Rattle.chars.specs.Utf8.{scalar, size, sizes, encode_one, tail_of, Front, one, bad, none, form, front, decode}
use Rattle.chars.specs.Decoded.{decoded_at}
use Rattle.chars.specs.Ranges.{rows, within}
use Rattle.chars.specs.Class.{admitted}
use Rattle.chars.specs.Decoded.{Passes, plain_up_to}
use Rattle.chars.specs.Short.{is_tail, is_two, two_code, is_short, plain_two, plain_next, Short, of_two, of_three}
use Rattle.chars.proofs.Tests.{and_both, or_cases, or_true, lt-or-ge}
use Rattle.chars.proofs.Front.{rest_bytes, rest_long, long_two, long_three, tail_bits, form-char}
use Rattle.chars.proofs.Encoding.{Sized, size_1, size_2, size_3, size_4, sized, size-range, front_bytes, front_in}
use Rattle.chars.proofs.Laws.{some_pair, char_decode, char_next, front-decode, decode_bad, decode-none, decode-end}
use Rattle.chars.proofs.Segments.{over, admitted_over}
use Rattle.chars.proofs.Blocks.{passes-one, plain_stop, plain_here}

-- ---- what the tests say of the bytes
pub tail-range : (b : ℕ) → is_tail b ≡ true → (0x80 ≤ b) × (b < 0xC0)
unfolding is_tail
tail-range b e = let w = and_both (leb 0x80 b) (ltb b 0xC0) e in (leb-true 0x80 b w.0, ltb-true b 0xC0 w.1)

pub two_range : (a b : ℕ) → is_two a b ≡ true → (0xC2 ≤ a) × (a < 0xE0) × (0x80 ≤ b) × (b < 0xC0)
unfolding is_two
two_range a b e =
    let w = and_both (leb 0xC2 a && ltb a 0xE0) (is_tail b) e in
    let u = and_both (leb 0xC2 a) (ltb a 0xE0) w.0 in
    let k = tail-range b w.1 in
    (leb-true 0xC2 a u.0, ltb-true a 0xE0 u.1, k.0, k.1)

tail_is : (b : ℕ) → 0x80 ≤ b → b < 0xC0 → is_tail b ≡ true
unfolding is_tail
tail_is b l u = rw (le-leb 0x80 b l, lt-ltb b 0xC0 u)

two_is : (a b : ℕ) → 0xC2 ≤ a → a < 0xE0 → 0x80 ≤ b → b < 0xC0 → is_two a b ≡ true
unfolding is_two
two_is a b l u m v = rw (le-leb 0xC2 a l, lt-ltb a 0xE0 u) (tail_is b m v)

-- ---- the character of a form that is not overlong
low_form : (at n v : ℕ) → v < 0xD800 → size v ≡ n → Some (v, at + n) ≡ decoded_at at (form n v)
unfolding scalar
low_form at n v l e = rw (lt-ltb v 0xD800 l, eq-eqb (size v) n e) at (form-char at n v)

size_two : (v : ℕ) → 0x80 ≤ v → v < 0x800 → size v ≡ 2
unfolding size
size_two v l u = rw (le-ltb v 0x80 l, lt-ltb v 0x800 u)

size-three : (v : ℕ) → 0x800 ≤ v → v < 0x10000 → size v ≡ 3
unfolding size
size-three v l u = rw (le-ltb v 0x80 (omega arith), le-ltb v 0x800 l, lt-ltb v 0x10000 u)

-- ---- the set
admitted_in : (c lo hi : ℕ) → lo ≤ c → c < hi → over (rows true admitted []) false [] lo hi ≡ some true → within admitted c ≡ true
admitted_in c lo hi l u e = sym (admitted_over c lo hi true l u e)

pub plain_is_two : (a b : ℕ) → plain_two a b ≡ true → is_two a b ≡ true
unfolding plain_two is_two
plain_is_two a b e =
    let w = and_both ((leb 0xC2 a && ltb a 0xCB) || (leb 0xCE a && ltb a 0xD2)) (is_tail b) e in
    let r : (0xC2 ≤ a) × (a < 0xE0) = ⊎_elim
    (λ u. let k = and_both (leb 0xC2 a) (ltb a 0xCB) u in (leb-true 0xC2 a k.0, omega (arith, ltb-true a 0xCB k.1)))
    (λ u. let k = and_both (leb 0xCE a) (ltb a 0xD2) u in (omega (arith, leb-true 0xCE a k.0), omega (arith, ltb-true a 0xD2 k.1)))
    (or_cases (leb 0xC2 a && ltb a 0xCB) (leb 0xCE a && ltb a 0xD2) w.0) in
    rw (le-leb 0xC2 a r.0, lt-ltb a 0xE0 r.1) w.1

pub plain_two_in : (a b : ℕ) → plain_two a b ≡ true → within admitted (two_code a b) ≡ true
unfolding plain_two two_code
plain_two_in a b e =
    let w = and_both ((leb 0xC2 a && ltb a 0xCB) || (leb 0xCE a && ltb a 0xD2)) (is_tail b) e in
    let k = tail-range b w.1 in
    let c : ℕ = (a - 0xC0) * 64 + (b - 0x80) in
    ⊎_elim
    (λ u. let v = and_both (leb 0xC2 a) (ltb a 0xCB) u in
    let l : 0xC2 ≤ a = leb-true 0xC2 a v.0 in
    let m : a < 0xCB = ltb-true a 0xCB v.1 in
    admitted_in c 0x80 0x2C0 (omega arith) (omega arith) refl)
    (λ u. let v = and_both (leb 0xCE a) (ltb a 0xD2) u in
    let l : 0xCE ≤ a = leb-true 0xCE a v.0 in
    let m : a < 0xD2 = ltb-true a 0xD2 v.1 in
    admitted_in c 0x380 0x480 (omega arith) (omega arith) refl)
    (or_cases (leb 0xC2 a && ltb a 0xCB) (leb 0xCE a && ltb a 0xD2) w.0)

-- a character whose first byte is above ASCII is
pub high_char : (t : List ℕ) (at : ℕ) → at < length t → 0x80 ≤ get_or t at 0 → (c : ℕ) → front (drop at t) ≡ one c → 0x80 ≤ c
high_char t at h l c e = go (sized c)
  where
    go : Sized c → 0x80 ≤ c
    go (size_1 u n p) =
        let w : get_or t at 0 ∷ [] ≡ c ∷ [] = sym (ap (take 1) (drop-cons t at 0 h)) ∙ ap (λ (m : ℕ). take m (drop at t)) (sym n) ∙ front_bytes (drop at t) c e ∙ p in
        let x : get_or t at 0 ≡ c = cc in
        omega arith
    go (size_2 g u n p) = omega arith
    go (size_3 g u n p) = omega arith
    go (size_4 g n p) = omega arith

-- ---- the characters that their first bytes tell
pub short_low : (c : ℕ) → 0x80 ≤ c → c < 0x800 → is_short c ≡ true
unfolding is_short
short_low c l u = rw (le-leb 0x80 c l, lt-ltb c 0x800 u)

pub short_high : (c : ℕ) → 0x2000 ≤ c → c < 0x3000 → is_short c ≡ true
unfolding is_short
short_high c l u = rw (le-leb 0x2000 c l, lt-ltb c 0x3000 u) (or_true (leb 0x80 c && ltb c 0x800))

short_range : (c : ℕ) → is_short c ≡ true → ((0x80 ≤ c) × (c < 0x800)) ⊎ ((0x2000 ≤ c) × (c < 0x3000))
unfolding is_short
short_range c e =
    ⊎_elim
    (λ u. let k = and_both (leb 0x80 c) (ltb c 0x800) u in inl (leb-true 0x80 c k.0, ltb-true c 0x800 k.1))
    (λ u. let k = and_both (leb 0x2000 c) (ltb c 0x3000) u in inr (leb-true 0x2000 c k.0, ltb-true c 0x3000 k.1))
    (or_cases (leb 0x80 c && ltb c 0x800) (leb 0x2000 c && ltb c 0x3000) e)

pub short_least : (c : ℕ) → is_short c ≡ true → 0x80 ≤ c
short_least c e = ⊎_elim (λ u. u.0) (λ u. omega (arith, u.0)) (short_range c e)

-- the bytes of a character that stands at a place
module _ (t : List ℕ) (at c : ℕ) (e : front (drop at t) ≡ one c) where
  byte_of : (n j : ℕ) (l : List ℕ) → size c ≡ n → encode_one c ≡ l → j < n → get_or t (at + j) 0 ≡ get_or l j 0
  byte_of n j l p q h =
      sym (get_or-drop at t j 0) ∙ sym (get_or-take n (drop at t) j 0 h) ∙ ap (λ (m : ℕ). get_or (take m (drop at t)) j 0) (sym p)
      ∙ ap (λ (m : List ℕ). get_or m j 0) (front_bytes (drop at t) c e ∙ q)

  ends_in : at ≤ length t → at + size c ≤ length t
  ends_in h = omega (arith, front_in (drop at t) c e, length-drop at t)

  pub bytes_two : at ≤ length t → 0x80 ≤ c → c < 0x800 → (at + 2 ≤ length t) × (is_two (get_or t at 0) (get_or t (at + 1) 0) ≡ true)
  bytes_two h l u = go (sized c)
    where
      go : Sized c → (at + 2 ≤ length t) × (is_two (get_or t at 0) (get_or t (at + 1) 0) ≡ true)
      go (size_1 v n p) = absurd (omega arith)
      go (size_2 g v n p) =
          let z : at + 0 ≡ at = omega arith in
          let a : get_or t at 0 ≡ 0xC0 + c / 64 = rw z at (byte_of 2 0 _ n p (omega arith)) in
          let b : get_or t (at + 1) 0 ≡ 0x80 + c % 64 = byte_of 2 1 _ n p (omega arith) in
          (omega (arith, ends_in h), two_is _ _ (omega arith) (omega arith) (omega arith) (omega arith))
      go (size_3 g v n p) = absurd (omega arith)
      go (size_4 g n p) = absurd (omega arith)

  pub bytes_three : at ≤ length t → 0x2000 ≤ c → c < 0x3000
      → (at + 3 ≤ length t) × (get_or t at 0 ≡ 0xE2) × (is_tail (get_or t (at + 2) 0) ≡ true) × (get_or t (at + 1) 0 * 64 + (get_or t (at + 2) 0 - 0x80) ≡ c)
  bytes_three h l u = go (sized c)
    where
      go : Sized c → (at + 3 ≤ length t) × (get_or t at 0 ≡ 0xE2) × (is_tail (get_or t (at + 2) 0) ≡ true) × (get_or t (at + 1) 0 * 64 + (get_or t (at + 2) 0 - 0x80) ≡ c)
      go (size_1 v n p) = absurd (omega arith)
      go (size_2 g v n p) = absurd (omega arith)
      go (size_3 g v n p) =
          let z : at + 0 ≡ at = omega arith in
          let a : get_or t at 0 ≡ 0xE0 + c / 64 / 64 = rw z at (byte_of 3 0 _ n p (omega arith)) in
          let b : get_or t (at + 1) 0 ≡ 0x80 + c / 64 % 64 = byte_of 3 1 _ n p (omega arith) in
          let d : get_or t (at + 2) 0 ≡ 0x80 + c % 64 = byte_of 3 2 _ n p (omega arith) in
          (omega (arith, ends_in h), omega arith, tail_is _ (omega arith) (omega arith), omega arith)
      go (size_4 g n p) = absurd (omega arith)

-- ---- the bytes at a place
module _ (t : List ℕ) (at a b : ℕ) (h : at < length t) (ea : a ≡ get_or t at 0) (eb : b ≡ get_or t (at + 1) 0) where
  pub two_char : is_two a b ≡ true → Some (two_code a b, at + 2) ≡ decoded_at at (front (drop at t))
  unfolding two_code
  two_char p =
      let k = two_range a b p in
      let v : ℕ = two_code a b in
      long_two t at a h ea (omega arith) (b - 0x80) (tail_bits b (b - 0x80) (omega arith) (omega arith) refl ∙ ap tail_of eb) (omega arith) v (Some (v, at + 2)) (omega arith) refl
      (low_form at 2 v (omega arith) (size_two v (omega arith) (omega arith)))

  -- behind E2
  pub three_char : (c : ℕ) → c ≡ get_or t (at + 2) 0 → a ≡ 0xE2 → is_tail c ≡ true → (v : ℕ) → v ≡ b * 64 + (c - 0x80) → 0x2000 ≤ v → v < 0x3000
      → Some (v, at + 3) ≡ decoded_at at (front (drop at t))
  three_char c ec e p v q l m =
      let k = tail-range c p in
      long_three t at a h ea (omega arith) (b - 0x80) (tail_bits b (b - 0x80) (omega arith) (omega arith) refl ∙ ap tail_of eb) (omega arith) (omega arith)
      (c - 0x80) (tail_bits c (c - 0x80) (omega arith) (omega arith) refl ∙ ap tail_of ec) (omega arith) v (Some (v, at + 3)) (omega arith) (omega arith)
      (low_form at 3 v (omega arith) (size-three v (omega arith) (omega arith)))

-- ---- what `short_at` finds
module _ (t : List ℕ) (at : ℕ) (T : ℕ → ℕ → Bool → Type 0) (lo hi c n : ℕ) (s : Short t at T lo hi c n) where
  pub short_char : Some (c, n) ≡ decoded_at at (front (drop at t))
  short_char = go s
    where
      go : Short t at T lo hi c n → Some (c, n) ≡ decoded_at at (front (drop at t))
      go (of_two e a b w p) = e
      go (of_three e l h) = e

  pub short_is : ((a b : ℕ) → T a b true → is_two a b ≡ true) → 0x2000 ≤ lo → hi ≤ 0x3000 → is_short c ≡ true
  unfolding two_code
  short_is f l m = go s
    where
      go : Short t at T lo hi c n → is_short c ≡ true
      go (of_two e a b w p) = let k = two_range a b (f a b w) in short_low c (omega arith) (omega arith)
      go (of_three e g h) = short_high c (omega arith) (omega arith)

  -- a character of two bytes that are plain, or of three in a part of the set, is of the set
  pub short_in : ((a b : ℕ) → T a b true → plain_two a b ≡ true) → leb 0x2190 lo ≡ true → leb hi 0x2440 ≡ true → within admitted c ≡ true
  short_in f l m = go s
    where
      go : Short t at T lo hi c n → within admitted c ≡ true
      go (of_two e a b w p) = ap (within admitted) p ∙ plain_two_in a b (f a b w)
      go (of_three e g h) = admitted_in c 0x2190 0x2440 (omega (arith, leb-true 0x2190 lo l)) (omega (arith, leb-true hi 0x2440 m)) refl

-- ---- `above_end`
module _ (t : List ℕ) (at : ℕ) where
  pub above_on : (c n : ℕ) → Some (c, n) ≡ decoded_at at (front (drop at t)) → is_short c ≡ true
      → n + sizes (take_while is_short (decode (drop n t))) ≡ at + sizes (take_while is_short (decode (drop at t)))
  unfolding sizes
  above_on c n s e =
      let d = char_decode t at (Some (c, n)) s c n refl in
      let m = char_next t at (Some (c, n)) s c n refl in
      let q : take_while is_short (decode (drop at t)) ≡ c ∷ take_while is_short (decode (drop n t)) =
      ap (take_while is_short) d ∙ take_while-cons is_short c (decode (drop n t)) ∙ rw e refl in
      let w : sizes (take_while is_short (decode (drop at t))) ≡ size c + sizes (take_while is_short (decode (drop n t))) = ap sizes q in
      omega arith

  pub above_stop : ((c : ℕ) → front (drop at t) ≡ one c → is_short c ≡ false) → sizes (take_while is_short (decode (drop at t))) ≡ 0
  unfolding sizes
  above_stop f = go (front (drop at t)) refl
    where
      go : (x : Front) → front (drop at t) ≡ x → sizes (take_while is_short (decode (drop at t))) ≡ 0
      go (one c) e =
          let q : take_while is_short (decode (drop at t)) ≡ [] =
          ap (take_while is_short) (front-decode t at c e) ∙ take_while-cons is_short c (decode (drop (at + size c) t)) ∙ rw (f c e) refl in
          ap sizes q
      go bad e = ap (λ (l : List ℕ). sizes (take_while is_short l)) (decode_bad (drop at t) e)
      go none e = ap (λ (l : List ℕ). sizes (take_while is_short l)) (decode-none (drop at t) e)

  pub above_past : length t ≤ at → sizes (take_while is_short (decode (drop at t))) ≡ 0
  unfolding sizes
  above_past h = ap (λ (l : List ℕ). sizes (take_while is_short l)) (decode-end t at h)

  -- where no two bytes and no three tell a character
  pub above_none : at ≤ length t → (at + 2 ≤ length t → false ≡ is_two (get_or t at 0) (get_or t (at + 1) 0))
      → ((c : ℕ) → front (drop at t) ≡ one c → 0x2000 ≤ c → 0x3000 ≤ c) → sizes (take_while is_short (decode (drop at t))) ≡ 0
  above_none h f g = above_stop (λ c e. not_short c e (is_short c) refl)
    where
      not_short : (c : ℕ) → front (drop at t) ≡ one c → (b : Bool) → is_short c ≡ b → b ≡ false
      not_short c e false p = refl
      not_short c e true p =
          ⊎_elim
          (λ u. let k = bytes_two t at c e h u.0 u.1 in let z : false ≡ true = f k.0 ∙ k.1 in cc)
          (λ u. absurd (omega (arith, g c e u.0)))
          (short_range c p)

-- ---- `plain_next`
module _ (at : ℕ) where
  pub next_char : (f : Front) (c n : ℕ) → Some (c, n) ≡ decoded_at at f → then_some (within admitted c) n ≡ plain_next at f
  unfolding decoded_at plain_next
  next_char (one x) c n s = go (within admitted x) refl
    where
      go : (b : Bool) → within admitted x ≡ b → then_some (within admitted c) n ≡ cond (within admitted x) (Some (at + size x)) None
      go true e = let p = some_pair c n x (at + size x) s in rw (p.0, e, p.1)
      go false e = let p = some_pair c n x (at + size x) s in rw (p.0, e)
  next_char bad c n s = cc
  next_char none c n s = cc

  pub next_in : (f : Front) (c n : ℕ) → Some (c, n) ≡ decoded_at at f → within admitted c ≡ true → Some n ≡ plain_next at f
  next_in f c n s e = rw e at (next_char f c n s)

  pub next_none : (f : Front) → None ≡ decoded_at at f → None ≡ plain_next at f
  unfolding decoded_at plain_next
  next_none (one x) s = cc
  next_none bad s = refl
  next_none none s = refl

-- what a character of the set at a place says of the text
module _ (t : List ℕ) (at : ℕ) where
  pub passes-next : (n : ℕ) → Some n ≡ plain_next at (front (drop at t)) → Passes t at n × (at < n)
  unfolding plain_next decoded_at
  passes-next n s = go (front (drop at t)) refl
    where
      go : (x : Front) → front (drop at t) ≡ x → Passes t at n × (at < n)
      go (one c) e = pick (within admitted c) refl
        where
          pick : (b : Bool) → within admitted c ≡ b → Passes t at n × (at < n)
          pick true w =
              let m : Some n ≡ Some (at + size c) = s ∙ ap (plain_next at) e ∙ rw w in
              let k : n ≡ at + size c = cc in
              (passes-one t at c n (ap (λ (y : ℕ). Some (c, y)) k ∙ sym (ap (decoded_at at) e)) w, omega (arith, size-range c))
          pick false w = let m : Some n ≡ None = s ∙ ap (plain_next at) e ∙ rw w in cc
      go bad e = let m : Some n ≡ None = s ∙ ap (plain_next at) e in cc
      go none e = let m : Some n ≡ None = s ∙ ap (plain_next at) e in cc

  pub plain_found : Passes t 0 at → None ≡ plain_next at (front (drop at t)) → at ≡ plain_up_to t
  unfolding plain_next decoded_at
  plain_found p s = go (front (drop at t)) refl
    where
      go : (x : Front) → front (drop at t) ≡ x → at ≡ plain_up_to t
      go (one c) e = pick (within admitted c) refl
        where
          pick : (b : Bool) → within admitted c ≡ b → at ≡ plain_up_to t
          pick true w = let m : None ≡ Some (at + size c) = s ∙ ap (plain_next at) e ∙ rw w in cc
          pick false w = plain_here t at p (Some (c, at + size c)) (sym (ap (decoded_at at) e)) c (at + size c) refl w
      go bad e = plain_stop t at p None (sym (ap (decoded_at at) e)) refl
      go none e = plain_stop t at p None (sym (ap (decoded_at at) e)) refl

-- the two bytes that a text ends with
module _ (t : List ℕ) (at : ℕ) (h : at ≤ length t) where
  abbrev rest : List ℕ
  rest = take (length t - at) (drop at t)

  last_long : length rest + at ≡ length t
  last_long = omega (arith, length-take (length t - at) (drop at t), length-drop at t)

  last_two : is_two (get_or rest 0 0) (get_or rest 1 0) ≡ is_two (get_or t at 0) (get_or t (at + 1) 0)
  last_two = let z : at + 0 ≡ at = omega arith in rw (rest_bytes t at h 0, rest_bytes t at h 1, z) refl

  pub above_last : 2 ≤ length rest → length rest < 3 → is_two (get_or rest 0 0) (get_or rest 1 0) ≡ true
      → at + 2 ≡ at + sizes (take_while is_short (decode (drop at t)))
  unfolding two_code
  above_last l u p =
      let q = sym last_two ∙ p in
      let k = two_range (get_or t at 0) (get_or t (at + 1) 0) q in
      let s = two_char t at (get_or t at 0) (get_or t (at + 1) 0) (omega (arith, last_long)) refl refl q in
      omega (arith, above_on t at (two_code (get_or t at 0) (get_or t (at + 1) 0)) (at + 2) s (short_low _ (omega arith) (omega arith)), above_past t (at + 2) (omega (arith, last_long)))

  -- where the loop finds none and two bytes are none either
  pub above_left : (at + 3 ≤ length t → false ≡ is_two (get_or t at 0) (get_or t (at + 1) 0)) → ((c : ℕ) → front (drop at t) ≡ one c → 0x2000 ≤ c → 0x3000 ≤ c)
      → (2 ≤ length rest → length rest < 3 → false ≡ is_two (get_or rest 0 0) (get_or rest 1 0)) → at ≡ at + sizes (take_while is_short (decode (drop at t)))
  above_left f g e =
      omega (arith, above_none t at h (λ l. ⊎_elim (λ k. e (omega (arith, last_long)) (omega (arith, last_long)) ∙ last_two) (λ k. f k) (lt-or-ge (length t) (at + 3))) g)

-- ---- `short_at`, by the bytes of the rest
above_least : (x y : ℕ) → x ≤ y → is_le (nat_cmp x y) ≡ true
above_least x y h =
    by_ranked (x < y) (x ≡ y) (y < x) (nat_cmp x y) (ranked x y _ refl) (λ e _. ap is_le e) (λ e _. ap is_le e) (λ e l. absurd (omega arith))

below_most : (x y : ℕ) → x < y → is_lt (nat_cmp x y) ≡ true
below_most x y h =
    by_ranked (x < y) (x ≡ y) (y < x) (nat_cmp x y) (ranked x y _ refl) (λ e _. ap is_lt e) (λ e l. absurd (omega arith)) (λ e l. absurd (omega arith))

-- no character of three bytes from lo to below hi stands at the place
module _ (t : List ℕ) (at : ℕ) (h : at ≤ length t) (lo hi : ℕ) (u : 0x2000 ≤ lo) (m : hi ≤ 0x3000) where
  abbrev NoThree : Type 0
  NoThree = (c : ℕ) → front (drop at t) ≡ one c → lo ≤ c → hi ≤ c

  no_three : ((v : ℕ) → lo ≤ v → v < hi → (at + 3 ≤ length t) × (get_or t at 0 ≡ 0xE2) × (is_tail (get_or t (at + 2) 0) ≡ true)
      × (get_or t (at + 1) 0 * 64 + (get_or t (at + 2) 0 - 0x80) ≡ v) → ⊥) → NoThree
  no_three f v e l = ⊎_elim (λ k. absurd (f v l k (bytes_three t at v e h (omega arith) (omega arith)))) (λ k. k) (lt-or-ge v hi)

  pub three_short : length (take (length t - at) (drop at t)) < 3 → NoThree
  three_short l = no_three (λ v g k w. omega (arith, w.0, length-take (length t - at) (drop at t), length-drop at t))

  module _ (a b c : ℕ) (ea : a ≡ get_or (take (length t - at) (drop at t)) 0 0) (eb : b ≡ get_or (take (length t - at) (drop at t)) 1 0)
      (ec : c ≡ get_or (take (length t - at) (drop at t)) 2 0) where
    first_is : a ≡ get_or t at 0
    first_is = let z : at + 0 ≡ at = omega arith in ea ∙ rest_bytes t at h 0 ∙ ap (λ (i : ℕ). get_or t i 0) z

    pub three_head : (a ≡ 0xE2 → ⊥) → NoThree
    three_head f = no_three (λ v g k w. f (first_is ∙ w.1))

    pub three_tail : is_tail c ≡ false → NoThree
    three_tail p = no_three (λ v g k w. let z : true ≡ false = sym w.2 ∙ ap is_tail (sym (ec ∙ rest_bytes t at h 2)) ∙ p in cc)

    pub three_out : (x y : ℕ) → x ≡ b → y ≡ c - 0x80 → (w : Bool) (r : Option (ℕ × ℕ)) → w ≡ (is_le (nat_cmp lo (x * 64 + y)) && is_lt (nat_cmp (x * 64 + y) hi))
        → r ≡ then_some w (x * 64 + y, at + 3) → IfNone r NoThree
    three_out x y ex ey true r k e = rw e tt
    three_out x y ex ey false r k e =
        rw e
        (no_three (λ v g n w. let z : x * 64 + y ≡ v = rw (ex, ey, eb, ec, rest_bytes t at h 1, rest_bytes t at h 2) w.3 in
        let q : false ≡ true = k ∙ rw z (rw (above_least lo v g) (below_most v hi n)) in
        cc))

module _ (t : List ℕ) (at : ℕ) (h : at ≤ length t) where
  module _ (l : 3 ≤ length (take (length t - at) (drop at t))) (T : ℕ → ℕ → Bool → Type 0) (lo hi : ℕ) (a b c : ℕ)
      (ea : a ≡ get_or (take (length t - at) (drop at t)) 0 0) (eb : b ≡ get_or (take (length t - at) (drop at t)) 1 0) (ec : c ≡ get_or (take (length t - at) (drop at t)) 2 0) where
    first : a ≡ get_or t at 0
    first = let z : at + 0 ≡ at = omega arith in ea ∙ rest_bytes t at h 0 ∙ ap (λ (i : ℕ). get_or t i 0) z

    pub short_two : is_two a b ≡ true → T a b true → (x y : ℕ) → x ≡ a - 0xC0 → y ≡ b - 0x80 → Short t at T lo hi (x * 64 + y) (at + 2)
    unfolding two_code
    short_two p q x y ex ey =
        let e : x * 64 + y ≡ two_code a b = rw (ex, ey) refl in
        of_two (ap (λ (v : ℕ). Some (v, at + 2)) e ∙ two_char t at a b (omega (arith, rest_long t at h l)) first (eb ∙ rest_bytes t at h 1) p) a b q e

    pub short_three : a ≡ 0xE2 → is_tail c ≡ true → (x y : ℕ) → x ≡ b → y ≡ c - 0x80 → 0x2000 ≤ lo → hi ≤ 0x3000 → lo ≤ x * 64 + y → x * 64 + y < hi
        → Short t at T lo hi (x * 64 + y) (at + 3)
    short_three p q x y ex ey u v m n =
        of_three (three_char t at a b (omega (arith, rest_long t at h l)) first (eb ∙ rest_bytes t at h 1) c (ec ∙ rest_bytes t at h 2) p q (x * 64 + y) (rw (ex, ey) refl) (omega arith) (omega arith)) m n

    below : (x y : ℕ) → is_lt (nat_cmp x y) ≡ true → x < y
    below x y h =
        by_ranked (x < y) (x ≡ y) (y < x) (nat_cmp x y) (ranked x y _ refl) (λ _ l. l) (λ e _. let z : true ≡ false = sym h ∙ ap is_lt e in cc) (λ e _. let z : true ≡ false = sym h ∙ ap is_lt e in cc)

    pub short_found : a ≡ 0xE2 → is_tail c ≡ true → (x y : ℕ) → x ≡ b → y ≡ c - 0x80 → 0x2000 ≤ lo → hi ≤ 0x3000 → (w : Bool) (r : Option (ℕ × ℕ))
        → w ≡ (is_le (nat_cmp lo (x * 64 + y)) && is_lt (nat_cmp (x * 64 + y) hi)) → r ≡ then_some w (x * 64 + y, at + 3) → IfSome r (λ f. Short t at T lo hi f.0 f.1)
    short_found p q x y ex ey u v true r k e =
        let w = and_both (is_le (nat_cmp lo (x * 64 + y))) (is_lt (nat_cmp (x * 64 + y) hi)) (sym k) in
        rw e (short_three p q x y ex ey u v (le_from_is_le lo (x * 64 + y) w.0) (below (x * 64 + y) hi w.1))
    short_found p q x y ex ey u v false r k e = rw e (tt)
