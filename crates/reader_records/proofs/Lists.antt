-- What the log is behind its clearing, and behind the diagnostics and their sort.
use mathlib.Core.Path.{◌≡◌, refl, sym, ap, ◌∙◌}
use Prim.Native.Nat.{ℕ, zero, suc, ◌-◌}
use native.Mathlib.Omega.{arith}
use mathlib.Core.List.{List, [], ◌∷◌, ◌++◌}
use lib.ListN.{length, take, drop, replicate}
use lib.Seq.{take_at}
use Rattle.diag.specs.Log.{sort}
use Rattle.diag.specs.declared.Diagnostic.{Diagnostic}
use Rattle.diag_records.specs.Unused.{unused}
use Rattle.std.proofs.Math.Seq.{take-length}

module _ {X : Type 0} where
  drop-replicate : (c n : ℕ) (x : X) → drop c (replicate n x) ≡ replicate (n - c) x
  drop-replicate zero n x = let none : n - 0 ≡ n = omega arith in ap (λ (k : ℕ). replicate k x) (sym none)
  drop-replicate (suc c) zero x = let none : 0 - suc c ≡ 0 = omega arith in ap (λ (k : ℕ). replicate k x) (sym none)
  drop-replicate (suc c) (suc n) x = let same : suc n - suc c ≡ n - c = omega arith in drop-replicate c n x ∙ ap (λ (k : ℕ). replicate k x) (sym same)

  drop_at : (xs ys : List X) → drop (length xs) (xs ++ ys) ≡ ys
  drop_at [] ys = refl
  drop_at (x ∷ xs) ys = drop_at xs ys

module _ (ds : List Diagnostic) (c n : ℕ) (all : c ≡ length ds) (zs zs' : List Diagnostic) (cleared : zs ≡ replicate n unused) (gathered : zs' ≡ ds ++ drop c zs) where
  pub behind-sort : sort (take c zs') ++ drop c zs' ≡ sort (take c ds) ++ replicate (n - c) unused
  behind-sort =
      let rest : drop c zs ≡ replicate (n - c) unused = ap (drop c) cleared ∙ drop-replicate c n unused in
      let is : zs' ≡ ds ++ replicate (n - c) unused = gathered ∙ ap (λ (l : List Diagnostic). ds ++ l) rest in
      let front : take c zs' ≡ take c ds = ap (take c) is ∙ take_at ds (replicate (n - c) unused) c (sym all) ∙ sym (ap (λ (k : ℕ). take k ds) all ∙ take-length ds) in
      let tail : drop c zs' ≡ replicate (n - c) unused = ap (drop c) is ∙ ap (λ (k : ℕ). drop k (ds ++ replicate (n - c) unused)) all ∙ drop_at ds (replicate (n - c) unused) in
      ap (λ (l : List Diagnostic). sort l ++ drop c zs') front ∙ ap (λ (l : List Diagnostic). sort (take c ds) ++ l) tail
