-- The least number that passes a test, by where it lies.
use Rattle.std.proofs.Common.{ℕ, zero, suc, ◌+◌, ◌<◌, ◌≤◌, min, Bool, true, false, ◌||◌, ◌⊎◌, inl, inr, ◌≡◌, refl, sym, ap, ◌∙◌, arith}
use Rattle.std.proofs.lemmas.Bool.{cases_lt, false≢true}
use Rattle.hours.specs.Hours.{least}

-- a test, taken apart
pub by_test : {X : Type 0} (b : Bool) → (b ≡ true → X) → (b ≡ false → X) → X
by_test true f g = f refl
by_test false f g = g refl

pub least_from : (n d : ℕ) (f : ℕ → Bool) → d ≤ least n d f
unfolding least
least_from zero d f = omega arith
least_from (suc n) d f =
    by_test (f d) (λ e. rw (e, least) (omega arith)) (λ e. rw (e, least) (omega (arith, least_from n (suc d) f)))

-- of two tests the lesser
pub least_or : (n d : ℕ) (f g : ℕ → Bool) → least n d (λ e. f e || g e) ≡ min (least n d f) (least n d g)
unfolding least
least_or zero d f g = omega arith
least_or (suc n) d f g =
    by_test
    (f d)
    (λ e.
    rw
    (e, least)
    (by_test (g d) (λ k. rw (k, least) (omega arith)) (λ k. rw (k, least) (omega (arith, least_from n (suc d) g)))))
    (λ e.
    rw
    (e, least)
    (by_test (g d) (λ k. rw (k, least) (omega (arith, least_from n (suc d) f))) (λ k. rw (k, least) (least_or n (suc d) f g))))

-- it passes, if there is one
pub least-passes : (n d : ℕ) (f : ℕ → Bool) → least n d f < d + n → f (least n d f) ≡ true
unfolding least
least-passes zero d f h = absurd (omega arith)
least-passes (suc n) d f h =
    by_test
    (f d)
    (λ e. rw (e, least) e)
    (λ e. rw (e, least) (least-passes n (suc d) f (omega (arith, rw (e, least) at h))))

-- and none before it does
pub least-first : (n d e : ℕ) (f : ℕ → Bool) → d ≤ e → e < least n d f → f e ≡ false
unfolding least
least-first zero d e f l h = absurd (omega arith)
least-first (suc n) d e f l h =
    by_test
    (f d)
    (λ t. absurd (let k : e < d = rw (t, least) at h in omega arith))
    (λ t. go t (cases_lt d e) (rw (t, least) at h) (λ a k. least-first n (suc d) e f a k))
  where
    go : f d ≡ false → (d < e) ⊎ (e ≤ d) → e < least n (suc d) f → (suc d ≤ e → e < least n (suc d) f → f e ≡ false) → f e ≡ false
    go t (inl a) k r = r a k
    go t (inr a) k r = let q : d ≡ e = omega arith in rw q at t

-- a number that passes, where none before it does
pub least_at : (n d w : ℕ) (f : ℕ → Bool) → d ≤ w → w < d + n → f w ≡ true → ((e : ℕ) → d ≤ e → e < w → f e ≡ false) → least n d f ≡ w
unfolding least
least_at zero d w f lo hi t miss = absurd (omega arith)
least_at (suc n) d w f lo hi t miss = go (cases_lt d w) (λ a. least_at n (suc d) w f a (omega arith) t (λ e p q. miss e (omega arith) q))
  where
    go : (d < w) ⊎ (w ≤ d) → (suc d ≤ w → least n (suc d) f ≡ w) → least (suc n) d f ≡ w
    go (inl l) k = unfold least in rw (miss d (omega arith) l, least) (k (omega arith))
    go (inr l) k = let e : d ≡ w = omega arith in unfold least in rw (ap f e ∙ t, least) e

-- no number passes
pub least_none : (n d : ℕ) (f : ℕ → Bool) → ((e : ℕ) → f e ≡ false) → least n d f ≡ d + n
unfolding least
least_none zero d f h = omega arith
least_none (suc n) d f h = rw (h d, least) (omega (arith, least_none n (suc d) f h))

-- some number passes
pub least_some : (n d : ℕ) (f : ℕ → Bool) (e : ℕ) → d ≤ e → e < d + n → f e ≡ true → least n d f < d + n
least_some n d f e a b t = go (cases_lt (least n d f) (d + n))
  where
    go : (least n d f < d + n) ⊎ (d + n ≤ least n d f) → least n d f < d + n
    go (inl l) = l
    go (inr l) = absurd (false≢true (sym (least-first n d e f a (omega arith)) ∙ t))
