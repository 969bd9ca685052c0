-- UTF-8 there and back: what is encoded decodes to itself, and the longest UTF-8 beginning is UTF-8 and longest.
use mathlib.Core.Path.{◌≡◌, refl, sym, ap, ap₂, ◌∙◌}
use Prim.Native.Nat.{ℕ, zero, suc, ◌+◌, ◌-◌, ◌*◌, ◌/◌, ◌%◌, ◌≤◌, ◌<◌}
use native.Mathlib.Omega.{arith}
use mathlib.Core.Bool.{true}
use mathlib.Core.List.{List, [], ◌∷◌, ◌++◌, append_assoc, append-nil}
use lib.ListN.{length, take, drop, length-append, length-take, take-append-drop}
use lib.Seq.{take-add, take-length, take-take, take_at, drop_at}
use borrow.Author.Tests.{le-ltb, lt-ltb, lt-leb, eq-eqb}
use Rattle.chars.specs.Utf8.{scalar, size, sizes, encode_one, encode, Front, one, bad, none, tail_of, form, front, points_on, points_from, decode, valid_up_to}
use Rattle.chars.specs.Decoded.{scalars}
use Rattle.chars.proofs.Tests.{and_both}
use Rattle.chars.proofs.Encoding.{Sized, size_1, size_2, size_3, size_4, sized, size-range, length-encode_one, front-scalar, front_bytes}
use Rattle.chars.proofs.Laws.{decode-nil, decode-one, drop_past}

-- ---- an encoding begins with its scalar value

tail_of_lem : (m : ℕ) → m < 64 → tail_of (0x80 + m) ≡ m
unfolding tail_of
tail_of_lem m h = rw (le-ltb (0x80 + m) 0x80 (omega arith), lt-ltb (0x80 + m) 0xC0 (omega arith)) (omega arith)

form_is : (n c v : ℕ) → v ≡ c → scalar c ≡ true → size c ≡ n → form n v ≡ one c
unfolding form
form_is n c v e s h = rw (e, s, eq-eqb (size c) n h)

pub front-encode : (c : ℕ) (rest : List ℕ) → scalar c ≡ true → front (encode_one c ++ rest) ≡ one c
unfolding front
front-encode c rest s = go (sized c)
  where
    go : Sized c → front (encode_one c ++ rest) ≡ one c
    go (size_1 h n p) = rw p (rw (lt-ltb c 0x80 h))
    go (size_2 g h n p) =
        let a : ℕ = 0xC0 + c / 64 in
        let b : ℕ = c % 64 in
        rw p (simp (tail_of_lem b (omega arith), le-ltb a 0x80 (omega arith), le-ltb a 0xC0 (omega arith), lt-leb 64 b (omega arith), lt-ltb a 0xE0 (omega arith))
        (form_is 2 c ((a - 0xC0) * 64 + b) (omega arith) s n))
    go (size_3 g h n p) =
        let a : ℕ = 0xE0 + c / 64 / 64 in
        let b : ℕ = c / 64 % 64 in
        let d : ℕ = c % 64 in
        rw p (simp (tail_of_lem b (omega arith), tail_of_lem d (omega arith), le-ltb a 0x80 (omega arith), le-ltb a 0xC0 (omega arith), lt-leb 64 b (omega arith), le-ltb a 0xE0 (omega arith), lt-leb 64 d (omega arith), lt-ltb a 0xF0 (omega arith))
        (form_is 3 c ((a - 0xE0) * 4096 + b * 64 + d) (omega arith) s n))
    go (size_4 g n p) =
        let a : ℕ = 0xF0 + c / 64 / 64 / 64 in
        let b : ℕ = c / 64 / 64 % 64 in
        let d : ℕ = c / 64 % 64 in
        let f : ℕ = c % 64 in
        rw p (simp (tail_of_lem b (omega arith), tail_of_lem d (omega arith), tail_of_lem f (omega arith), le-ltb a 0x80 (omega arith), le-ltb a 0xC0 (omega arith), lt-leb 64 b (omega arith), le-ltb a 0xE0 (omega arith), lt-leb 64 d (omega arith), le-ltb a 0xF0 (omega arith), lt-leb 64 f (omega arith))
        (form_is 4 c ((a - 0xF0) * 262144 + b * 4096 + d * 64 + f) (omega arith) s n))

-- ---- what is encoded decodes to itself

pub decode-encode_one : (c : ℕ) (t : List ℕ) → scalar c ≡ true → decode (encode_one c ++ t) ≡ c ∷ decode t
decode-encode_one c t s =
    decode-one (encode_one c ++ t) c (front-encode c t s) ∙ ap (λ (l : List ℕ). c ∷ decode l) (drop_at (encode_one c) t (size c) (length-encode_one c))

pub decode-append : (cs t : List ℕ) → scalars cs ≡ true → decode (encode cs ++ t) ≡ cs ++ decode t
unfolding scalars encode
decode-append [] t s = refl
decode-append (c ∷ cs) t s =
    let w = and_both (scalar c) (scalars cs) s in
    ap decode (append_assoc (encode_one c) (encode cs) t) ∙ decode-encode_one c (encode cs ++ t) w.0 ∙ ap (λ (l : List ℕ). c ∷ l) (decode-append cs t w.1)

pub decode-encode : (cs : List ℕ) → scalars cs ≡ true → decode (encode cs) ≡ cs
decode-encode cs s =
    ap decode (sym (append-nil (encode cs))) ∙ decode-append cs [] s ∙ ap (λ (l : List ℕ). cs ++ l) decode-nil ∙ append-nil cs

pub length-encode : (cs : List ℕ) → length (encode cs) ≡ sizes cs
unfolding encode sizes
length-encode [] = refl
length-encode (c ∷ cs) = length-append (encode_one c) (encode cs) ∙ ap₂ ◌+◌ (length-encode_one c) (length-encode cs)

-- ---- lists put together

pub encode-append : (cs ds : List ℕ) → encode (cs ++ ds) ≡ encode cs ++ encode ds
unfolding encode
encode-append [] ds = refl
encode-append (c ∷ cs) ds = ap (λ (l : List ℕ). encode_one c ++ l) (encode-append cs ds) ∙ sym (append_assoc (encode_one c) (encode cs) (encode ds))

pub sizes-append : (cs ds : List ℕ) → sizes (cs ++ ds) ≡ sizes cs + sizes ds
unfolding sizes
sizes-append [] ds = omega arith
sizes-append (c ∷ cs) ds = omega (arith, sizes-append cs ds)

-- ---- the longest UTF-8 beginning is UTF-8

points_scalars : (k : ℕ) (l : List ℕ) → scalars (points_from k l) ≡ true
unfolding scalars points_from
points_scalars zero [] = refl
points_scalars (suc k) [] = refl
points_scalars (suc k) (b ∷ r) = points_scalars k r
points_scalars zero (b ∷ r) = go (front (b ∷ r)) refl (λ (k : ℕ). points_scalars k r)
  where
    go : (h : Front) → front (b ∷ r) ≡ h → ((k : ℕ) → scalars (points_from k r) ≡ true) → scalars (points_on h (λ (k : ℕ). points_from k r)) ≡ true
    go (one c) e ih = rw (front-scalar (b ∷ r) c e) (ih (size c - 1))
    go bad e ih = refl
    go none e ih = refl

pub decode-scalars : (t : List ℕ) → scalars (decode t) ≡ true
unfolding decode
decode-scalars t = points_scalars 0 t

points_bytes : (k : ℕ) (l : List ℕ) → take (sizes (points_from k l)) (drop k l) ≡ encode (points_from k l)
unfolding sizes encode points_from
points_bytes zero [] = refl
points_bytes (suc k) [] = refl
points_bytes (suc k) (b ∷ r) = points_bytes k r
points_bytes zero (b ∷ r) = go (front (b ∷ r)) refl (λ (k : ℕ). points_bytes k r)
  where
    Bytes : List ℕ → List ℕ → Type 0
    Bytes cs l = take (sizes cs) l ≡ encode cs

    go : (h : Front) → front (b ∷ r) ≡ h → ((k : ℕ) → Bytes (points_from k r) (drop k r)) → Bytes (points_on h (λ (k : ℕ). points_from k r)) (b ∷ r)
    go (one c) e ih =
        let cs : List ℕ = points_from (size c - 1) r in
        take-add (size c) (sizes cs) (b ∷ r) ∙
        ap₂ ◌++◌ (front_bytes (b ∷ r) c e) (ap (take (sizes cs)) (sym (drop_past (size c) b r (size-range c).0)) ∙ ih (size c - 1))
    go bad e ih = refl
    go none e ih = refl

pub valid_utf8 : (t : List ℕ) → take (valid_up_to t) t ≡ encode (decode t)
unfolding valid_up_to
valid_utf8 t = points_bytes 0 t

pub valid_le : (t : List ℕ) → valid_up_to t ≤ length t
unfolding valid_up_to
valid_le t = omega (arith, ap length (valid_utf8 t), length-take (valid_up_to t) t, length-encode (decode t))

-- ---- and there is no longer one

pub valid_longest : (t cs : List ℕ) (n : ℕ) → scalars cs ≡ true → n ≤ length t → encode cs ≡ take n t → n ≤ valid_up_to t
unfolding valid_up_to
valid_longest t cs n s h e =
    let p : decode t ≡ cs ++ decode (drop n t) = ap decode (sym (take-append-drop n t) ∙ ap (λ (l : List ℕ). l ++ drop n t) (sym e)) ∙ decode-append cs (drop n t) s in
    omega (arith, ap sizes p, sizes-append cs (decode (drop n t)), length-encode cs, ap length e, length-take n t)

-- a text is UTF-8 exactly when all of it is the longest beginning
pub valid_whole : (t : List ℕ) → valid_up_to t ≡ length t → encode (decode t) ≡ t
valid_whole t e = sym (valid_utf8 t) ∙ ap (λ (n : ℕ). take n t) e ∙ take-length t

pub encode_valid : (cs : List ℕ) → scalars cs ≡ true → valid_up_to (encode cs) ≡ length (encode cs)
unfolding valid_up_to
encode_valid cs s = ap sizes (decode-encode cs s) ∙ sym (length-encode cs)

-- ---- a part of a text and its code points

-- no two lists of scalar values have one encoding
pub encode_injective : (cs ds : List ℕ) → scalars cs ≡ true → scalars ds ≡ true → encode cs ≡ encode ds → cs ≡ ds
encode_injective cs ds s u e = sym (decode-encode cs s) ∙ ap decode e ∙ decode-encode ds u

pub part_bytes : (cs ds t : List ℕ) (i : ℕ) → decode (drop i t) ≡ cs ++ ds → take (sizes cs) (drop i t) ≡ encode cs
unfolding valid_up_to
part_bytes cs ds t i p =
    let n : ℕ = sizes cs in
    let l : List ℕ = drop i t in
    let h : n ≤ valid_up_to l = omega (arith, ap sizes p, sizes-append cs ds) in
    sym (take-take n (valid_up_to l) l h) ∙ ap (take n) (valid_utf8 l ∙ ap encode p ∙ encode-append cs ds) ∙ take_at (encode cs) (encode ds) n (length-encode cs)

pub part-scalars : (cs ds t : List ℕ) → decode t ≡ cs ++ ds → scalars cs ≡ true
unfolding scalars
part-scalars cs ds t p = scalars-front cs ds (ap scalars (sym p) ∙ decode-scalars t)
  where
    scalars-front : (cs ds : List ℕ) → scalars (cs ++ ds) ≡ true → scalars cs ≡ true
    scalars-front [] ds s = refl
    scalars-front (c ∷ cs) ds s = let w = and_both (scalar c) (scalars (cs ++ ds)) s in rw w.0 (scalars-front cs ds w.1)
