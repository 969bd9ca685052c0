-- The members of a list at their first mention, by any test that tells equal members: what is known already adds nothing.
use mathlib.Core.Bool.{Bool, true, false, ◌||◌}
use mathlib.Core.List.{List, [], ◌∷◌, ◌++◌, append_assoc, append-nil}
use mathlib.Core.Path.{◌≡◌, refl, ap, ap₂, ◌∙◌, sym, subst, fun_ext}
use Rattle.language.specs.Infer.{member, fresh}
use Rattle.language.proofs.Every.{by_test, or_left, or_right, Every, All, every_impl}

or_grown : (a b c : Bool) → (a ≡ true → c ≡ true) → ((a || b) || c) ≡ (b || c)
or_grown true true c e = refl
or_grown true false c e = sym (e refl)
or_grown false b c e = refl

or_swap : (a b c : Bool) → (a || (b || c)) ≡ ((b || a) || c)
or_swap true true c = refl
or_swap true false c = refl
or_swap false true c = refl
or_swap false false c = refl

or_step : (a b c : Bool) → (b ≡ true → c ≡ true) → (a || b) ≡ true → (a || c) ≡ true
or_step true b c g t = refl
or_step false b c g t = g t

every_right : {A : Type 0} (p : A → Type 0) (l r : List A) → Every p (l ++ r) → Every p r
every_right p [] r h = h
every_right p (a ∷ l) r h = every_right p l r h.1

module _ {A : Type 0} (is : A → A → Bool) (is-refl : (x : A) → is x x ≡ true) (is-eq : (x y : A) → is x y ≡ true → x ≡ y) where
  -- known by p or in l
  abbrev pub grow : (A → Bool) → List A → A → Bool
  grow p l = λ y. member is l y || p y

  pub fresh-append : (p : A → Bool) (l r : List A) → fresh is p (l ++ r) ≡ fresh is p l ++ fresh is (grow p l) r
  unfolding fresh member
  fresh-append p [] r = refl
  fresh-append p (x ∷ l) r = by_test (p x)
      (λ e. rw (e, fresh) (fresh-append p l r ∙ ap (λ q. fresh is p l ++ fresh is q r) (sym (grown e))))
      (λ e. rw (e, fresh) (ap (λ t. x ∷ t) (fresh-append (λ y. is x y || p y) l r
      ∙ ap (λ q. fresh is (λ y. is x y || p y) l ++ fresh is q r) (fun_ext (λ y. or_swap (member is l y) (is x y) (p y))))))
    where
      grown : p x ≡ true → grow p (x ∷ l) ≡ grow p l
      grown h = fun_ext (λ y. or_grown (is x y) (member is l y) (p y) (λ e. ap p (sym (is-eq x y e)) ∙ h))

  pub fresh_known : (p : A → Bool) (l r : List A) → All p l → fresh is p (l ++ r) ≡ fresh is p r
  unfolding fresh
  fresh_known p [] r h = refl
  fresh_known p (x ∷ l) r h = rw (h.0, fresh) (fresh_known p l r h.1)

  pub fresh_none : (p : A → Bool) (l : List A) → All p l → fresh is p l ≡ []
  unfolding fresh
  fresh_none p [] h = refl
  fresh_none p (x ∷ l) h = rw (h.0, fresh) (fresh_none p l h.1)

  -- what q leaves out p leaves out too
  pub fresh_under : (p q : A → Bool) → ((y : A) → q y ≡ true → p y ≡ true) → (l : List A) → fresh is p (fresh is q l) ≡ fresh is p l
  unfolding fresh
  fresh_under p q i [] = refl
  fresh_under p q i (x ∷ l) = by_test (q x)
      (λ e. rw (e, fresh) (rw (i x e, fresh) (fresh_under p q i l)))
      (λ e. rw (e, fresh) (by_test (p x)
      (λ f. rw (f, fresh) (fresh_under p (λ y. is x y || q y) (λ y t. by f y (is x y) (q y) refl t (i y)) l))
      (λ f. rw (f, fresh) (ap (λ t. x ∷ t) (fresh_under (λ y. is x y || p y) (λ y. is x y || q y) (λ y t. or_step (is x y) (q y) (p y) (i y) t) l)))))
    where
      by : p x ≡ true → (y : A) (a b : Bool) → is x y ≡ a → (a || b) ≡ true → (b ≡ true → p y ≡ true) → p y ≡ true
      by f y true b s t g = ap p (sym (is-eq x y s)) ∙ f
      by f y false b s t g = g t

  pub fresh_every : (q : A → Type 0) (p : A → Bool) (l : List A) → Every q l → Every q (fresh is p l)
  unfolding fresh
  fresh_every q p [] h = tt
  fresh_every q p (x ∷ l) h = by_test (p x) (λ e. rw (e, fresh) (fresh_every q p l h.1)) (λ e. rw (e, fresh) (h.0, fresh_every q (λ y. is x y || p y) l h.1))

  pub member_self : (l : List A) → All (member is l) l
  unfolding member
  member_self [] = tt
  member_self (x ∷ l) = (
    or_left (is x x) (member is l x) (is-refl x),
    every_impl (λ a. member is l a ≡ true) (λ a. member is (x ∷ l) a ≡ true) (λ a e. or_right (is x a) (member is l a) e) l (member_self l),
  )

  -- what is found of a list whose first member is known, and of one whose first member is not
  skipped : (p : A → Bool) (x : A) (l : List A) → p x ≡ true → fresh is p (x ∷ l) ≡ fresh is p l
  unfolding fresh
  skipped p x l e = rw (e, fresh) refl

  taken : (p : A → Bool) (x : A) (l : List A) → p x ≡ false → fresh is p (x ∷ l) ≡ x ∷ fresh is (λ y. is x y || p y) l
  unfolding fresh
  taken p x l e = rw (e, fresh) refl

  -- each member was known, or is mentioned first somewhere
  pub covered : (p : A → Bool) (l : List A) → All (grow p (fresh is p l)) l
  unfolding member
  covered p [] = tt
  covered p (x ∷ l) = by_test (p x)
      (λ e. subst (λ g. All (grow p g) (x ∷ l)) (sym (skipped p x l e)) (or_right (member is (fresh is p l) x) (p x) e, covered p l))
      (λ e. subst (λ g. All (grow p g) (x ∷ l)) (sym (taken p x l e)) (begins (fresh is (λ y. is x y || p y) l), goes_on (fresh is (λ y. is x y || p y) l) (covered (λ y. is x y || p y) l)))
    where
      begins : (f : List A) → grow p (x ∷ f) x ≡ true
      begins f = or_left (is x x || member is f x) (p x) (or_left (is x x) (member is f x) (is-refl x))

      goes_on : (f : List A) → All (grow (λ y. is x y || p y) f) l → All (grow p (x ∷ f)) l
      goes_on f h = every_impl (λ a. grow (λ y. is x y || p y) f a ≡ true) (λ a. grow p (x ∷ f) a ≡ true) (λ a t. sym (or_swap (member is f a) (is x a) (p a)) ∙ t) l h

  -- what was found first stands in for what was listed between xs and ys
  pub stable : (p : A → Bool) (xs old ys : List A) → fresh is p (xs ++ (fresh is p (xs ++ (old ++ ys)) ++ ys)) ≡ fresh is p (xs ++ (old ++ ys))
  stable p xs old ys =
      let K : A → Bool = grow p xs in
      let known : All K xs = every_impl (λ a. member is xs a ≡ true) (λ a. K a ≡ true) (λ a e. or_left (member is xs a) (p a) e) xs (member_self xs) in
      let F : List A = fresh is p xs in
      let E : List A = fresh is K (old ++ ys) in
      let G : fresh is p (xs ++ (old ++ ys)) ≡ F ++ E = fresh-append p xs (old ++ ys) in
      let all : All (grow K E) ys = every_right (λ a. grow K E a ≡ true) old ys (covered K (old ++ ys)) in
      ap (λ g. fresh is p (xs ++ (g ++ ys))) G
      ∙ (fresh-append p xs ((F ++ E) ++ ys)
      ∙ (ap (λ t. F ++ t) (ap (fresh is K) (append_assoc F E ys) ∙ (fresh_known K F (E ++ ys) (fresh_every (λ a. K a ≡ true) p xs known)
      ∙ (fresh-append K E ys ∙ (ap₂ (λ a b. a ++ b) (fresh_under K K (λ y e. e) (old ++ ys)) (fresh_none (grow K E) ys all) ∙ append-nil E))))
      ∙ sym G))
