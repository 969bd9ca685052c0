-- What one character gives, by the tests of the code.
use mathlib.Core.Path.{◌≡◌, refl, sym, ◌∙◌}
use Prim.Native.Nat.{ℕ, ◌+◌, ◌≤◌}
use native.Mathlib.Omega.{arith}
use mathlib.Core.Bool.{Bool, true, false}
use lib.Dec.{eqb}
use lib.ListN.{length}
use borrow.Author.Tests.{ne_eqb}
use Rattle.std.specs.Prelude.{Option, Some, None}
use Rattle.lexer.specs.Tokens.{escape}
use Rattle.language.proofs.Every.{by_test}
use Rattle.runner_input.specs.Given.{waits, given}

module _ (c : ℕ) where
  pub escape_quote : c ≡ 0x22 → Some 0x22 ≡ escape c
  unfolding escape
  escape_quote e = rw e

  pub escape_slash : c ≡ 0x5C → Some 0x5C ≡ escape c
  unfolding escape
  escape_slash e = rw e

  pub escape_feed : c ≡ 0x6E → Some 10 ≡ escape c
  unfolding escape
  escape_feed e = rw e

  pub escape_tab : c ≡ 0x74 → Some 9 ≡ escape c
  unfolding escape
  escape_tab e = rw e

  pub escape_none : (c ≡ 0x22 → ⊥) → (c ≡ 0x5C → ⊥) → (c ≡ 0x6E → ⊥) → (c ≡ 0x74 → ⊥) → None ≡ escape c
  unfolding escape
  escape_none h k l m = rw (ne_eqb c 0x22 h, escape) (rw (ne_eqb c 0x5C k, ne_eqb c 0x6E l, ne_eqb c 0x74 m))

pub ruleset escapes = (escape_quote, escape_slash, escape_feed, escape_tab, escape_none)

-- ---- how many characters it gives

module _ (slash : Bool) (c : ℕ) where
  pub count_none : slash ≡ false → c ≡ 0x5C → 0 ≡ length (given slash c)
  unfolding given
  count_none t e = rw (t, e)

  pub count_one : slash ≡ false → (c ≡ 0x5C → ⊥) → 1 ≡ length (given slash c)
  unfolding given
  count_one t e = rw (t, ne_eqb c 0x5C e, given)

  pub count_escape : (o : Option ℕ) (v : ℕ) → slash ≡ true → o ≡ escape c → o ≡ Some v → 1 ≡ length (given slash c)
  unfolding given
  count_escape o v t p q = let w : escape c ≡ Some v = sym p ∙ q in rw (t, w, given)

  pub count_both : (o : Option ℕ) → slash ≡ true → o ≡ escape c → o ≡ None → 2 ≡ length (given slash c)
  unfolding given
  count_both o t p q = let w : escape c ≡ None = sym p ∙ q in rw (t, w, given)

pub ruleset counted = (count_none, count_one, count_escape, count_both)

-- a backslash that waits
unfoldable pub waiting : Bool → ℕ
waiting true = 1
waiting false = 0

-- no more characters are given than were passed
pub given_waiting : (slash : Bool) (c : ℕ) → length (given slash c) + waiting (waits slash c) ≤ 1 + waiting slash
unfolding given waiting
given_waiting false c = by_test (eqb c 0x5C) (λ e. rw (e, given) (omega arith)) (λ e. rw (e, given) (omega arith))
given_waiting true c = go (escape c) refl
  where
    go : (o : Option ℕ) → escape c ≡ o → length (given true c) + 0 ≤ 1 + 1
    go None p = rw (p, given) (omega arith)
    go (Some v) p = rw (p, given) (omega arith)
