-- Of one window: which minutes are inside, and that the search for one of them ends at what the code computes.
use Rattle.std.proofs.Common.{ℕ, ◌+◌, ◌-◌, ◌%◌, ◌<◌, ◌≤◌, Bool, true, false, cond, ◌&&◌, not, ◌⊎◌, inl, inr, ◌≡◌, sym, ap, ap₂, ◌∙◌, eqb, ltb, lt-ltb, le-ltb, le-leb, arith}
use Rattle.std.proofs.lemmas.Bool.{cases_lt, false≢true, and_parts, not-true, ltb-true, eqb-false, lt-leb}
use Rattle.hours.specs.Hours.{is_window, inside, least}
use Rattle.hours.specs.Code.{wait_of}
use Rattle.hours.proofs.Least.{by_test, least_at, least_none}

module _ (o c m : ℕ) where
  in-plain : is_window o c ≡ true → o < c → o ≤ m → m < c → inside o c m ≡ true
  unfolding inside
  in-plain w h a b = rw (w, lt-ltb o c h, le-leb o m a, lt-ltb m c b)

  before-plain : is_window o c ≡ true → o < c → m < o → inside o c m ≡ false
  unfolding inside
  before-plain w h a = rw (w, lt-ltb o c h, lt-leb o m a)

  after-plain : is_window o c ≡ true → o < c → o ≤ m → c ≤ m → inside o c m ≡ false
  unfolding inside
  after-plain w h a b = rw (w, lt-ltb o c h, le-leb o m a, le-ltb m c b)

  in-late : is_window o c ≡ true → c ≤ o → o ≤ m → inside o c m ≡ true
  unfolding inside
  in-late w h a = rw (w, le-ltb o c h, le-leb o m a)

  in-early : is_window o c ≡ true → c ≤ o → m < c → inside o c m ≡ true
  unfolding inside
  in-early w h a = rw (w, le-ltb o c h, lt-leb o m (omega arith), lt-ltb m c a)

  between : is_window o c ≡ true → c ≤ o → m < o → c ≤ m → inside o c m ≡ false
  unfolding inside
  between w h a b = rw (w, le-ltb o c h, lt-leb o m a, le-ltb m c b)

-- no window has no minute inside
no-window : (o c m : ℕ) → is_window o c ≡ false → inside o c m ≡ false
unfolding inside
no-window o c m e = rw e

-- what the test for a window says
record Window (o c : ℕ) : Type 0 where
  opens : o < 10080
  closes : c < 10080
  differ : (o < c) ⊎ (c < o)

differ_of : (o c : ℕ) → eqb o c ≡ false → (o < c) ⊎ (c < o)
differ_of o c e = go (cases_lt o c) (cases_lt c o)
  where
    go : (o < c) ⊎ (c ≤ o) → (c < o) ⊎ (o ≤ c) → (o < c) ⊎ (c < o)
    go (inl a) f = inl a
    go (inr a) (inl b) = inr b
    go (inr a) (inr b) = absurd (eqb-false o c e (omega arith))

window : (o c : ℕ) → is_window o c ≡ true → Window o c
window o c e =
    let a = and_parts (ltb o 10080) (ltb c 10080 && not (eqb o c)) e in
    let b = and_parts (ltb c 10080) (not (eqb o c)) a.1 in
    record { opens = ltb-true o 10080 a.0; closes = ltb-true c 10080 b.0; differ = differ_of o c (not-true (eqb o c) b.1) }

-- the opening minute is inside
pub opening_inside : (o c : ℕ) → is_window o c ≡ true → inside o c o ≡ true
opening_inside o c w = at (window o c w).differ
  where
    at : (o < c) ⊎ (c < o) → inside o c o ≡ true
    at (inl d) = in-plain o c o w d (omega arith) d
    at (inr d) = in-late o c o w (omega arith) (omega arith)

-- and is reached by the wait that the code computes
pub opening_reached : (o c m : ℕ) → m < 10080 → is_window o c ≡ true → inside o c ((m + (o + 10080 - m) % 10080) % 10080) ≡ true
opening_reached o c m m_in w = go (window o c w)
  where
    go : Window o c → inside o c ((m + (o + 10080 - m) % 10080) % 10080) ≡ true
    go v = let e : (m + (o + 10080 - m) % 10080) % 10080 ≡ o = omega (arith, v.opens) in rw e (opening_inside o c w)

-- the minutes before it are not, if the first is not
module _ (o c m : ℕ) (m_in : m < 10080) (w : is_window o c ≡ true) (shut : inside o c m ≡ false) where
  closed_before : (e : ℕ) → e < (o + 10080 - m) % 10080 → inside o c ((m + e) % 10080) ≡ false
  closed_before e l = go (window o c w)
    where
      plain : Window o c → o < c → (m < o) ⊎ (o ≤ m) → (m < c) ⊎ (c ≤ m) → (m + e < 10080) ⊎ (10080 ≤ m + e) → inside o c ((m + e) % 10080) ≡ false
      plain v d (inl a) b x = before-plain o c ((m + e) % 10080) w d (omega (arith, v.opens))
      plain v d (inr a) (inl b) x = absurd (false≢true (sym shut ∙ in-plain o c m w d a b))
      plain v d (inr a) (inr b) (inl x) = after-plain o c ((m + e) % 10080) w d (omega (arith, v.opens)) (omega (arith, v.opens))
      plain v d (inr a) (inr b) (inr x) = before-plain o c ((m + e) % 10080) w d (omega (arith, v.opens))

      over : Window o c → c < o → (m < o) ⊎ (o ≤ m) → (m < c) ⊎ (c ≤ m) → inside o c ((m + e) % 10080) ≡ false
      over v d (inr a) b = absurd (false≢true (sym shut ∙ in-late o c m w (omega arith) a))
      over v d (inl a) (inl b) = absurd (false≢true (sym shut ∙ in-early o c m w (omega arith) b))
      over v d (inl a) (inr b) = between o c ((m + e) % 10080) w (omega arith) (omega (arith, v.opens)) (omega (arith, v.opens))

      by : Window o c → (o < c) ⊎ (c < o) → inside o c ((m + e) % 10080) ≡ false
      by v (inl d) = plain v d (cases_lt m o) (cases_lt m c) (cases_lt (m + e) 10080)
      by v (inr d) = over v d (cases_lt m o) (cases_lt m c)

      go : Window o c → inside o c ((m + e) % 10080) ≡ false
      go v = by v v.differ

-- the wait, by the outcomes of its tests
wait_by : (o c m : ℕ) (x y : Bool) → is_window o c ≡ x → inside o c m ≡ y → wait_of o c m ≡ cond x (cond y 0 ((o + 10080 - m) % 10080)) 10080
unfolding wait_of
wait_by o c m x y e f = ap₂ (λ (a b : Bool). cond a (cond b 0 ((o + 10080 - m) % 10080)) 10080) e f

-- what the code computes of one window is the least wait to a minute inside
pub one_window : (o c m : ℕ) → m < 10080 → least 10080 0 (λ d. inside o c ((m + d) % 10080)) ≡ wait_of o c m
one_window o c m h =
    by_test
    (is_window o c)
    (λ w.
    by_test
    (inside o c m)
    (λ i.
    let z : (m + 0) % 10080 ≡ m = omega arith in
    least_at
    10080
    0
    0
    (λ d. inside o c ((m + d) % 10080))
    (omega arith)
    (omega arith)
    (ap (inside o c) z ∙ i)
    (λ e p q. absurd (omega arith))
    ∙ sym (wait_by o c m true true w i))
    (λ i.
    least_at
    10080
    0
    ((o + 10080 - m) % 10080)
    (λ d. inside o c ((m + d) % 10080))
    (omega arith)
    (omega arith)
    (opening_reached o c m h w)
    (λ e p q. closed_before o c m h w i e q)
    ∙ sym (wait_by o c m true false w i)))
    (λ w.
    least_none 10080 0 (λ d. inside o c ((m + d) % 10080)) (λ e. no-window o c ((m + e) % 10080) w)
    ∙ sym (wait_by o c m false false w (no-window o c m w)))

-- the sum in the code fits
pub opening_fits : (o c : ℕ) → is_window o c ≡ true → o < 10080
opening_fits o c e = (window o c e).opens
