-- Words put where tokens begin: no two tokens begin at one place, so that no word is put over another.
use Prim.Native.Nat.{ℕ, ◌+◌, ◌<◌}
use native.Mathlib.Omega.{arith}
use mathlib.Core.List.{List}
use mathlib.Core.Path.{◌≡◌, sym, ap, subst, ◌∙◌}
use borrow.Author.Tests.{eqb-true, eqb-false}
use lib.Dec.{eqb}
use lib.ListN.{length, get_or, set}
use lib.Seq.{get_or-set_same, get_or-set_other}
use Rattle.diag.proofs.Cases.{by_test_lem}
use Rattle.tokens.specs.declared.Token.{Token}
use Rattle.tokens.specs.Row.{peek}
use Rattle.runner_names.specs.Rows.{Rising, AtStarts}

-- the word of token number n is put
module _ (ts : List Token) (words row : List ℕ) (n size : ℕ) (r : Rising ts size) (room : length row ≡ size) (low : n < length ts) (before : AtStarts ts words row n) where
  put : AtStarts ts words (set row (peek ts n).start (get_or words n 0)) (n + 1)
  put = record {
    held = λ x h. by_test_lem (eqb x n)
        (λ e.
        let z : x ≡ n = eqb-true x n e in
        ap (λ k. get_or (set row (peek ts n).start (get_or words n 0)) (peek ts k).start 0) z
        ∙ get_or-set_same row (peek ts n).start (get_or words n 0) 0 (omega (arith, r.inside n low)) ∙ ap (λ k. get_or words k 0) (sym z))
        (λ e.
        let first : x < n = omega (arith, eqb-false x n e) in
        get_or-set_other row (peek ts n).start (peek ts x).start (get_or words n 0) 0 (λ z. omega (arith, r.rise x n first low)) ∙ before.held x first);
  }

  pub starts_more : (t : Token) → t ≡ peek ts n → AtStarts ts words (set row t.start (get_or words n 0)) (n + 1)
  starts_more t e = subst (λ (u : Token). AtStarts ts words (set row u.start (get_or words n 0)) (n + 1)) (sym e) put
