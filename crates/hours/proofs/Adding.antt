-- A window that is added, by the tests that the definition makes: which answer comes when, and which minutes are open behind it.
use Rattle.std.proofs.Common.{ℕ, zero, suc, ◌+◌, ◌<◌, ◌≤◌, min, Bool, true, false, cond, ◌&&◌, ◌||◌, ◌⊎◌, inl, inr, ◌≡◌, refl, sym, ap, ap₂, ◌∙◌, eqb, ltb, lt-ltb, le-ltb, eq-eqb, ne_eqb, ltb-true, List, [], ◌∷◌, length, take, get_or, set, length-set, get_or-set_same, arith}
use Rattle.std.specs.List.{list_any, zip}
use Rattle.std.proofs.lemmas.Bool.{and_left, and_right, and_from, and_parts}
use Rattle.hours.specs.declared.Hours.{Hours}
use Rattle.hours.specs.declared.Added.{Added}
use Rattle.std.specs.Prelude.{Result, Ok, Err}
use Rattle.hours.specs.declared.HoursRefusal.{HoursRefusal}
use Rattle.hours.specs.declared.HoursRefusal.TheVariants.{OutOfRange, EmptyWindow}
use Rattle.hours.specs.Hours.{is_window, inside, is_open, with, added}
use Rattle.hours.specs.Claims.{Made, made_new, made_add}
use Rattle.hours.proofs.Least.{by_test}
use Rattle.hours.proofs.Waits.{open_at, open_more}

-- whether both minutes are of the week, and there is room
abbrev pub room : Hours → ℕ → ℕ → Bool
room h o c = ltb o 10080 && (ltb c 10080 && ltb h.count 32)

abbrev pub refused : Hours → Added
refused h = record { answer = Err OutOfRange; hours = h }

abbrev pub none_added : Hours → Added
none_added h = record { answer = Err EmptyWindow; hours = h }

abbrev pub taken : Hours → ℕ → ℕ → Added
taken h o c = record { answer = Ok tt; hours = with h o c }

pub added_by : (h : Hours) (o c : ℕ) (x y : Bool) → room h o c ≡ x → eqb o c ≡ y → added h o c ≡ cond x (cond y (none_added h) (taken h o c)) (refused h)
unfolding added
added_by h o c x y e f = ap₂ (λ (a b : Bool). cond a (cond b (none_added h) (taken h o c)) (refused h)) e f

-- each answer, of a property that each of the three has
pub by_answer : (P : Added → Type 0) (h : Hours) (o c : ℕ) → P (refused h) → P (none_added h) → (room h o c ≡ true → eqb o c ≡ false → P (taken h o c)) → P (added h o c)
by_answer P h o c r n t =
    by_test
    (room h o c)
    (λ a.
    by_test
    (eqb o c)
    (λ b. rw (added_by h o c true true a b) n)
    (λ b. rw (added_by h o c true false a b) (t a b)))
    (λ a. rw (added_by h o c false (eqb o c) a refl) r)

-- ---- which answer comes when

pub added-refused : (h : Hours) (o c : ℕ) → room h o c ≡ false → (added h o c).answer ≡ Err OutOfRange
added-refused h o c e = ap (λ (a : Added). a.answer) (added_by h o c false (eqb o c) e refl)

module _ (h : Hours) (o c : ℕ) where
  pub no_room : (10080 ≤ o) ⊎ ((10080 ≤ c) ⊎ (32 ≤ h.count)) → room h o c ≡ false
  no_room (inl l) = and_left (ltb o 10080) (ltb c 10080 && ltb h.count 32) (le-ltb o 10080 l)
  no_room (inr (inl l)) =
      and_right (ltb o 10080) (ltb c 10080 && ltb h.count 32) (and_left (ltb c 10080) (ltb h.count 32) (le-ltb c 10080 l))
  no_room (inr (inr l)) =
      and_right (ltb o 10080) (ltb c 10080 && ltb h.count 32) (and_right (ltb c 10080) (ltb h.count 32) (le-ltb h.count 32 l))

  module _ (a : o < 10080) (b : c < 10080) (d : h.count < 32) where
    has_room : room h o c ≡ true
    has_room =
        and_from (ltb o 10080) (ltb c 10080 && ltb h.count 32) (lt-ltb o 10080 a) (and_from (ltb c 10080) (ltb h.count 32) (lt-ltb c 10080 b) (lt-ltb h.count 32 d))

    pub added-empty : o ≡ c → (added h o c).answer ≡ Err EmptyWindow
    added-empty e = ap (λ (x : Added). x.answer) (added_by h o c true true has_room (eq-eqb o c e))

    pub added-taken : (o ≡ c → ⊥) → (added h o c).answer ≡ Ok tt
    added-taken e = ap (λ (x : Added). x.answer) (added_by h o c true false has_room (ne_eqb o c e))

-- what is not taken leaves the value as it is
pub unchanged : (h : Hours) (o c : ℕ) → ((added h o c).answer ≡ Ok tt → ⊥) → (added h o c).hours ≡ h
unchanged h o c =
    by_answer (λ a. (a.answer ≡ Ok tt → ⊥) → a.hours ≡ h) h o c (λ n. refl) (λ n. refl) (λ a b n. absurd (n refl))

-- ---- values that `new` and `add` make

-- the first pair is a window, if any is listed
pub record Listed (h : Hours) : Type 0 where
  pub opens_long : length h.opens ≡ 32
  pub closes_long : length h.closes ≡ 32
  pub first : (h.count ≡ 0) ⊎ (is_window (get_or h.opens 0 0) (get_or h.closes 0 0) ≡ true)

first_with : (os cs : List ℕ) (n o c : ℕ) → n < length os → n < length cs → is_window o c ≡ true → (n ≡ 0) ⊎ (is_window (get_or os 0 0) (get_or cs 0 0) ≡ true) → is_window (get_or (set os n o) 0 0) (get_or (set cs n c) 0 0) ≡ true
first_with [] cs n o c a b w f = absurd (omega arith)
first_with (x ∷ os) [] n o c a b w f = absurd (omega arith)
first_with (x ∷ os) (y ∷ cs) zero o c a b w f = w
first_with (x ∷ os) (y ∷ cs) (suc n) o c a b w (inl e) = absurd (omega arith)
first_with (x ∷ os) (y ∷ cs) (suc n) o c a b w (inr e) = e

a_window : (h : Hours) (o c : ℕ) → room h o c ≡ true → eqb o c ≡ false → is_window o c ≡ true
a_window h o c e f =
    let a = and_parts (ltb o 10080) (ltb c 10080 && ltb h.count 32) e in
    let b = and_parts (ltb c 10080) (ltb h.count 32) a.1 in
    rw (a.0, b.0, f)

pub below_room : (h : Hours) (o c : ℕ) → room h o c ≡ true → h.count < 32
below_room h o c e =
    ltb-true h.count 32 ((and_parts (ltb c 10080) (ltb h.count 32) (and_parts (ltb o 10080) (ltb c 10080 && ltb h.count 32) e).1).1)

listed_with : (h : Hours) (o c : ℕ) → h.count < 32 → is_window o c ≡ true → Listed h → Listed (with h o c)
listed_with h o c l w k = record {
  opens_long = length-set h.opens h.count o ∙ k.opens_long;
  closes_long = length-set h.closes h.count c ∙ k.closes_long;
  first = inr (first_with h.opens h.closes h.count o c (omega (arith, k.opens_long)) (omega (arith, k.closes_long)) w k.first);
}

listed_add : (h : Hours) (o c : ℕ) → Listed h → Listed (added h o c).hours
listed_add h o c k =
    by_answer (λ a. Listed a.hours) h o c k k (λ a b. listed_with h o c (below_room h o c a) (a_window h o c a b) k)

pub listed_of : (h : Hours) → Made h → Listed h
listed_of h made_new = record { opens_long = refl; closes_long = refl; first = inl refl }
listed_of h (made_add g o c d) = listed_add g o c (listed_of g d)

-- ---- which minutes a window opens

-- the windows before the one that is written
kept : (n o c : ℕ) (os cs : List ℕ) → take n (zip (set os n o) (set cs n c)) ≡ take n (zip os cs)
kept zero o c os cs = refl
kept (suc n) o c [] cs = refl
kept (suc n) o c (x ∷ os) [] = refl
kept (suc n) o c (x ∷ os) (y ∷ cs) = ap (λ (l : List (ℕ × ℕ)). (x, y) ∷ l) (kept n o c os cs)

open_with : (os cs : List ℕ) (n o c m : ℕ) → n < length os → n < length cs → open_at (set os n o) (set cs n c) (n + 1) m ≡ (open_at os cs n m || inside o c m)
open_with os cs n o c m l k =
    open_more (set os n o) (set cs n c) n m (omega (arith, length-set os n o)) (omega (arith, length-set cs n c))
    ∙ ap₂
    (λ (a b : Bool). a || b)
    (ap (list_any (λ (w : ℕ × ℕ). inside w.0 w.1 m)) (kept n o c os cs))
    (ap₂ (λ (a b : ℕ). inside a b m) (get_or-set_same os n o 0 l) (get_or-set_same cs n c 0 k))

pub is_open_is : (h : Hours) (n m : ℕ) → min h.count 32 ≡ n → is_open h m ≡ open_at h.opens h.closes n m
unfolding is_open
is_open_is h n m e = ap (λ (k : ℕ). open_at h.opens h.closes k m) e

opens_with : (h : Hours) (o c m : ℕ) → h.count < 32 → Listed h → is_open (with h o c) m ≡ (is_open h m || inside o c m)
opens_with h o c m l k =
    is_open_is (with h o c) (h.count + 1) m (omega arith)
    ∙ (open_with h.opens h.closes h.count o c m (omega (arith, k.opens_long)) (omega (arith, k.closes_long))
    ∙ ap (λ (b : Bool). b || inside o c m) (sym (is_open_is h h.count m (omega arith))))

pub opens : (h : Hours) (o c m : ℕ) → Made h → (added h o c).answer ≡ Ok tt → is_open (added h o c).hours m ≡ (is_open h m || inside o c m)
opens h o c m d =
    by_answer
    (λ a. a.answer ≡ Ok tt → is_open a.hours m ≡ (is_open h m || inside o c m))
    h
    o
    c
    (λ e. absurd (other OutOfRange e))
    (λ e. absurd (other EmptyWindow e))
    (λ a b e. opens_with h o c m (below_room h o c a) (listed_of h d))
  where
    other : (r : HoursRefusal) → ◌≡◌ {A = Result (Unit {0}) HoursRefusal} (Err r) (Ok tt) → ⊥
    other r e = cc
