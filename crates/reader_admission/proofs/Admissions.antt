-- The rows 1 to 4 of refusals, one law for each answer: the tests of the definition have the values that the branches gave them.
use mathlib.Core.Path.{◌≡◌, sym, ◌∙◌}
use mathlib.Core.List.{List}
use Rattle.std.specs.Prelude.{Some, None, Option}
use Rattle.std.specs.Prelude as P
use Prim.Native.Nat.{ℕ, ◌+◌, ◌*◌, ◌<◌, ◌≤◌}
use native.Mathlib.Omega.{arith}
use borrow.Author.Tests.{lt-ltb, le-ltb}
use lib.ListN.{length}
use Rattle.chars.specs.Utf8.{valid_up_to}
use Rattle.chars.specs.Class.{first_outside}
use Rattle.chars.specs.Decoded.{plain_up_to}
use Rattle.chars.proofs.Blocks.{plain_whole}
use Rattle.language.specs.Outcome.{Refusal, text_too_long, work_too_short, invalid_utf8, outside_set, refusal_of}

module _ (t : List ℕ) (work : ℕ) where
  pub too_long : 4194304 < length t → Some text_too_long ≡ refusal_of t work
  unfolding refusal_of
  too_long h = rw (refusal_of, lt-ltb 4194304 (length t) h)

  module _ (a : length t ≤ 4194304) where
    pub work_too_short_lem : work < 6 * length t + 6 → Some work_too_short ≡ refusal_of t work
    unfolding refusal_of
    work_too_short_lem h = rw (refusal_of, le-ltb 4194304 (length t) a, lt-ltb work (6 * length t + 6) h)

    pub all_plain : (n : ℕ) → 6 * length t + 6 ≤ work → n ≡ plain_up_to t → n ≡ length t → ◌≡◌ {A = Option Refusal} None (refusal_of t work)
    unfolding refusal_of
    all_plain n b e f =
        let w = plain_whole t (sym e ∙ f) in
        rw (refusal_of, le-ltb 4194304 (length t) a, le-ltb work (6 * length t + 6) b, w.1, le-ltb (length t) (length t) (omega arith), w.0)

    module _ (b : 6 * length t + 6 ≤ work) (v : ℕ) (e : v ≡ valid_up_to t) where
      pub not_utf8 : v < length t → Some (invalid_utf8 v) ≡ refusal_of t work
      unfolding refusal_of
      not_utf8 h = rw (e, refusal_of, le-ltb 4194304 (length t) a, le-ltb work (6 * length t + 6) b, lt-ltb (valid_up_to t) (length t) (rw e at h))

      module _ (h : length t ≤ v) (o : P.Option ℕ) (f : o ≡ first_outside t) where
        pub outside : (i : ℕ) → o ≡ Some i → Some (outside_set i) ≡ refusal_of t work
        unfolding refusal_of
        outside i g = rw (refusal_of, le-ltb 4194304 (length t) a, le-ltb work (6 * length t + 6) b, ← e, le-ltb v (length t) h, ← f, g)

        pub all-inside : o ≡ None → ◌≡◌ {A = Option Refusal} None (refusal_of t work)
        unfolding refusal_of
        all-inside g = rw (refusal_of, le-ltb 4194304 (length t) a, le-ltb work (6 * length t + 6) b, ← e, le-ltb v (length t) h, ← f, g)

-- one for each answer
pub ruleset rows = (too_long, work_too_short_lem, all_plain, not_utf8, outside, all-inside)
