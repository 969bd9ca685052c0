-- Small laws on lists and tests that the round trip uses.
use mathlib.Core.Bool.{Bool, true, false, ◌&&◌, ◌||◌, not, false≢true}
use mathlib.Core.List.{List, [], ◌∷◌, ◌++◌, map}
use Rattle.std.specs.Prelude.{Option, None, Some}
use mathlib.Core.Path.{◌≡◌, refl, ap₂, sym}

-- to go by a test and keep what it said
pub by_test {ℓ} : {X : Type ℓ} (b : Bool) → (b ≡ true → X) → (b ≡ false → X) → X
by_test true f g = f refl
by_test false f g = g refl

pub and_left : (a b : Bool) → (a && b) ≡ true → a ≡ true
and_left true b e = refl
and_left false b e = e

pub and_right : (a b : Bool) → (a && b) ≡ true → b ≡ true
and_right true b e = e
and_right false b e = absurd (false≢true e)

pub and_both : (a b : Bool) → a ≡ true → b ≡ true → (a && b) ≡ true
and_both true b e f = f
and_both false b e f = e

pub or_left : (a b : Bool) → a ≡ true → (a || b) ≡ true
or_left true b e = refl
or_left false b e = absurd (false≢true e)

pub or_right : (a b : Bool) → b ≡ true → (a || b) ≡ true
or_right true b e = refl
or_right false b e = e

-- the second test holds where the first does not
pub or_else : (a b : Bool) → (a || b) ≡ true → a ≡ false → b ≡ true
or_else true b e f = absurd (false≢true (sym f))
or_else false b e f = e

-- every member has the property
abbrev pub Every : {A : Type 0} → (A → Type 0) → List A → Type 0
Every p [] = Unit {0}
Every p (a ∷ l) = p a × Every p l

-- every member passes the test
abbrev pub All : {A : Type 0} → (A → Bool) → List A → Type 0
All p l = Every (λ a. p a ≡ true) l

-- what is there has the property
abbrev pub Maybe : {A : Type 0} → (A → Type 0) → Option A → Type 0
Maybe p None = Unit {0}
Maybe p (Some a) = p a

-- the list has a member
abbrev pub Filled : {A : Type 0} → List A → Type 0
Filled [] = ⊥
Filled (a ∷ l) = Unit {0}

module _ {A : Type 0} where
  pub every_append : (p : A → Type 0) (l r : List A) → Every p l → Every p r → Every p (l ++ r)
  every_append p [] r h k = k
  every_append p (a ∷ l) r h k = (h.0, every_append p l r h.1 k)

  pub every_impl : (p q : A → Type 0) → ((a : A) → p a → q a) → (l : List A) → Every p l → Every q l
  every_impl p q f [] h = tt
  every_impl p q f (a ∷ l) h = (f a h.0, every_impl p q f l h.1)

  pub every_any : (p : A → Type 0) → ((a : A) → p a) → (l : List A) → Every p l
  every_any p f [] = tt
  every_any p f (a ∷ l) = (f a, every_any p f l)

  pub every_map : {B : Type 0} (p : A → Type 0) (q : B → Type 0) (f : A → B) → ((a : A) → p a → q (f a)) → (l : List A) → Every p l → Every q (map f l)
  every_map p q f e [] h = tt
  every_map p q f e (a ∷ l) h = (e a h.0, every_map p q f e l h.1)

pub map_ext : {A B : Type 0} {g h : A → B} → ((a : A) → g a ≡ h a) → (l : List A) → map g l ≡ map h l
map_ext e [] = refl
map_ext e (a ∷ l) = ap₂ (λ x y. x ∷ y) (e a) (map_ext e l)

pub map_id : {A : Type 0} {g : A → A} → ((a : A) → g a ≡ a) → (l : List A) → map g l ≡ l
map_id e [] = refl
map_id e (a ∷ l) = ap₂ (λ x y. x ∷ y) (e a) (map_id e l)
