-- Characters noted one after the other are those that are fresh: an undeclared Γ is the language's, and
-- behind its blank stands the language's Σ.
use mathlib.Core.Path.{◌≡◌, refl, sym, ap, ◌∙◌, fun_ext}
use mathlib.Core.Bool.{Bool, true, false, ◌||◌, false≢true}
use mathlib.Core.List.{List, [], ◌∷◌, ◌++◌, append-nil, append_assoc}
use Prim.Native.Nat.{ℕ}
use borrow.Author.Tests.{eq-eqb, eqb-true}
use lib.Dec.{eqb}
use Rattle.std.proofs.Math.Bool.{or-false}
use Rattle.language.specs.Infer.{member, fresh, less}
use Rattle.language.proofs.Every.{by_test}
use Rattle.infer_symbols.specs.Codes.{noted, noted_all}

pub fresh_there : (known : ℕ → Bool) (x : ℕ) (l : List ℕ) → known x ≡ true → fresh eqb known (x ∷ l) ≡ fresh eqb known l
unfolding fresh
fresh_there known x l e = rw (e, fresh)

pub fresh_new : (known : ℕ → Bool) (x : ℕ) (l : List ℕ) → known x ≡ false → fresh eqb known (x ∷ l) ≡ x ∷ fresh eqb (λ y. eqb x y || known y) l
unfolding fresh
fresh_new known x l e = rw (e, fresh)

or_turn : (a b c : Bool) → (a || (b || c)) ≡ (b || (a || c))
or_turn true true c = refl
or_turn true false c = refl
or_turn false true c = refl
or_turn false false c = refl

pub member_last : (cs : List ℕ) (x y : ℕ) → member eqb (cs ++ x ∷ []) y ≡ (eqb x y || member eqb cs y)
unfolding member
member_last [] x y = refl
member_last (c ∷ cs) x y = ap (λ (b : Bool). eqb c y || b) (member_last cs x y) ∙ or_turn (eqb c y) (eqb x y) (member eqb cs y)

pub noted_there : (cs : List ℕ) (x : ℕ) → member eqb cs x ≡ true → noted cs x ≡ cs
unfolding noted
noted_there cs x e = rw e

pub noted_new : (cs : List ℕ) (x : ℕ) → member eqb cs x ≡ false → noted cs x ≡ cs ++ x ∷ []
unfolding noted
noted_new cs x e = rw e

-- what is noted on top of cs is what is fresh where cs is known
pub noted-fresh : (cs xs : List ℕ) → noted_all cs xs ≡ cs ++ fresh eqb (member eqb cs) xs
unfolding noted_all fresh
noted-fresh cs [] = sym (append-nil cs)
noted-fresh cs (x ∷ xs) = by_test (member eqb cs x)
    (λ e. ap (λ (l : List ℕ). noted_all l xs) (noted_there cs x e) ∙ noted-fresh cs xs ∙ ap (λ (l : List ℕ). cs ++ l) (sym (fresh_there (member eqb cs) x xs e)))
    (λ e.
    ap (λ (l : List ℕ). noted_all l xs) (noted_new cs x e) ∙ noted-fresh (cs ++ x ∷ []) xs
    ∙ ap (λ (k : ℕ → Bool). (cs ++ x ∷ []) ++ fresh eqb k xs) (fun_ext (member_last cs x))
    ∙ append_assoc cs (x ∷ []) (fresh eqb (λ y. eqb x y || member eqb cs y) xs)
    ∙ ap (λ (l : List ℕ). cs ++ l) (sym (fresh_new (member eqb cs) x xs e)))

-- the codes of an undeclared Γ
pub codes_mean : (b : ℕ) (xs : List ℕ) → noted_all (b ∷ []) xs ≡ b ∷ fresh eqb (eqb b) xs
unfolding member
codes_mean b xs = noted-fresh (b ∷ []) xs ∙ ap (λ (k : ℕ → Bool). b ∷ fresh eqb k xs) (fun_ext (λ y. or-false (eqb b y)))

-- what is known is not fresh
fresh_lacks : (b : ℕ) (known : ℕ → Bool) (xs : List ℕ) → known b ≡ true → less b (fresh eqb known xs) ≡ fresh eqb known xs
unfolding fresh less
fresh_lacks b known [] k = refl
fresh_lacks b known (x ∷ xs) k = by_test (known x)
    (λ e. ap (less b) (fresh_there known x xs e) ∙ fresh_lacks b known xs k ∙ sym (fresh_there known x xs e))
    (λ e.
    let other : eqb x b ≡ false = differs (eqb x b) refl e in
    ap (less b) (fresh_new known x xs e) ∙ rw (other, less) (ap (λ (l : List ℕ). x ∷ l) (fresh_lacks b (λ y. eqb x y || known y) xs (or_known (eqb x b) (known b) k)) ∙ sym (fresh_new known x xs e)))
  where
    differs : (t : Bool) → eqb x b ≡ t → known x ≡ false → eqb x b ≡ false
    differs true q e = absurd (false≢true (sym e ∙ ap known (eqb-true x b q) ∙ k))
    differs false q e = q

    or_known : (a c : Bool) → c ≡ true → (a || c) ≡ true
    or_known true c e = refl
    or_known false c e = e

-- Σ is what stands behind the blank
pub less_mean : (b : ℕ) (xs : List ℕ) → less b (b ∷ fresh eqb (eqb b) xs) ≡ fresh eqb (eqb b) xs
unfolding less
less_mean b xs = rw (eq-eqb b b refl, less) (fresh_lacks b (eqb b) xs (eq-eqb b b refl))
