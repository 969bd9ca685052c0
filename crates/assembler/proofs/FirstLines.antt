-- What the line of a first declaration tells: where there is one, its number is an index of a token, and
-- where there is none, it is no such index.
use mathlib.Core.Path.{◌≡◌, refl, sym, ap, ◌∙◌}
use mathlib.Core.Bool.{Bool, true, false, cond}
use Prim.Native.Nat.{ℕ, ◌≤◌, ◌<◌}
use borrow.Author.Tests.{ltb-true, ltb-false}
use lib.Dec.{ltb}
use Rattle.std.specs.Prelude.{Option, None, Some}
use Rattle.std.specs.Option.{is_some}
use Rattle.std.proofs.lemmas.Option.{cond_some, none-some}
use Rattle.assembler.specs.Declarations.{line}

none_by : (f : ℕ) (b : Bool) → cond b (Some f) None ≡ None → b ≡ false
none_by f true h = elim (none-some f (sym h)) [ ]
none_by f false h = refl

some_by : (f : ℕ) (b : Bool) → is_some (cond b (Some f) None) ≡ b
some_by f true = refl
some_by f false = refl

pub is_there : (n f : ℕ) → is_some (line n f) ≡ ltb f n
is_there n f = some_by f (ltb f n)

module _ (n f : ℕ) {o : Option ℕ} (told : o ≡ line n f) where
  pub there-inside : {i : ℕ} → o ≡ Some i → f < n
  there-inside {i} h = ltb-true f n (cond_some (ltb f n) f i (sym told ∙ h)).0

  pub there_is : {i : ℕ} → o ≡ Some i → i ≡ f
  there_is {i} h = sym (cond_some (ltb f n) f i (sym told ∙ h)).1

  pub none-outside : o ≡ None → n ≤ f
  none-outside h = ltb-false f n (none_by f (ltb f n) (sym told ∙ h))

  module _ {b : Bool} (asked : b ≡ is_some o) where
    pub asked_is : b ≡ ltb f n
    asked_is = asked ∙ ap is_some told ∙ is_there n f

    pub asked-inside : b ≡ true → f < n
    asked-inside h = ltb-true f n (sym asked_is ∙ h)

    pub asked-outside : b ≡ false → n ≤ f
    asked-outside h = ltb-false f n (sym asked_is ∙ h)
