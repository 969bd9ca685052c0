-- For callers: a log that was given ds, then cleared behind them and sorted if it has a record for each and else cleared, holds
-- the definition's `log_after` of their sort.
use mathlib.Core.Path.{◌≡◌, refl, sym, ap, ◌∙◌}
use mathlib.Core.List.{List, [], ◌∷◌, ◌++◌}
use Prim.Native.Nat.{ℕ, ◌+◌, ◌-◌, ◌*◌, ◌≤◌, ◌<◌}
use native.Mathlib.Omega.{arith}
use lib.ListN.{length, take, drop, replicate}
use lib.Seq.{take_at, drop_at}
use borrow.Author.Tests.{le-leb, lt-leb}
use Rattle.diag.specs.declared.Diagnostic.{Diagnostic}
use Rattle.diag.specs.Log.{flat, records, start_of, sort, padded, log_after, Log, logged, appended, append_all}
use Rattle.diag.proofs.Records.{length-flat, records-flat}
use Rattle.diag.proofs.Sorting.{sort-length}
use Rattle.diag.proofs.Appended.{append_all-append, append_all-count, append_all-length, append_all_lem}

-- ---- a log w that counts r, once ds were appended to a log w₀ that counted n
module _ (w₀ w : List ℕ) (n r : ℕ) (ds : List Diagnostic) (is : logged w r ≡ append_all (logged w₀ n) ds) where
  pub appends_count : r ≡ n + length ds
  appends_count = ap (λ (l : Log). l.count) is ∙ append_all-count (logged w₀ n) ds

  pub appends_length : length w ≡ length w₀
  appends_length = ap (λ (l : Log). length l.row) is ∙ append_all-length (logged w₀ n) ds

  -- one diagnostic more is appended to a log
  pub appends_more : (w' : List ℕ) (r' : ℕ) (d : Diagnostic) → logged w' r' ≡ appended (logged w r) d → logged w' r' ≡ append_all (logged w₀ n) (ds ++ d ∷ [])
  unfolding append_all
  appends_more w' r' d e = e ∙ ap (λ (l : Log). appended l d) is ∙ sym (append_all-append (logged w₀ n) ds (d ∷ []))

-- none yet
pub appends_none : (w : List ℕ) (n : ℕ) → logged w n ≡ append_all (logged w n) []
unfolding append_all
appends_none w n = refl

-- ---- the end: a log w that counts r, once ds were appended to a log w₀ that counted none
module _ (w₀ w : List ℕ) (r : ℕ) (ds : List Diagnostic) (is : logged w r ≡ append_all (logged w₀ 0) ds) where
  count : r ≡ length ds
  count = omega (arith, appends_count w₀ w 0 r ds is)

  sorted_count : 5 * length (sort ds) ≡ 5 * r
  sorted_count = ap (λ (k : ℕ). 5 * k) (sort-length start_of ds ∙ sym count)

  -- the log has a record for each diagnostic: what `clear_from` and `sort` leave
  module _ (h : 5 * r ≤ length w) (w₁ : List ℕ) (cleared : w₁ ≡ take (5 * r) w ++ replicate (length w - 5 * r) 0) where
    abbrev zeros : List ℕ
    zeros = replicate (length w - 5 * r) 0

    front : length (flat ds) ≡ 5 * r
    front = length-flat ds ∙ ap (λ (k : ℕ). 5 * k) (sym count)

    row : w₁ ≡ flat ds ++ zeros
    row =
        let all : w ≡ flat ds ++ drop (5 * length ds) w₀ = ap (λ (l : Log). l.row) (is ∙ append_all_lem w₀ ds (omega (arith, count, appends_length w₀ w 0 r ds is))) in
        cleared ∙ ap (λ (l : List ℕ). take (5 * r) l ++ zeros) all ∙ ap (λ (l : List ℕ). l ++ zeros) (take_at (flat ds) (drop (5 * length ds) w₀) (5 * r) front)

    pub log_sorted : (w' : List ℕ) → w' ≡ flat (sort (records r w₁)) ++ drop (5 * r) w₁ → w' ≡ log_after (length w) (sort ds)
    unfolding log_after padded
    log_sorted w' e =
        let here : records r w₁ ≡ ds = ap (records r) row ∙ ap (λ (k : ℕ). records k (flat ds ++ zeros)) count ∙ records-flat ds zeros in
        let behind : drop (5 * r) w₁ ≡ zeros = ap (drop (5 * r)) row ∙ drop_at (flat ds) zeros (5 * r) front in
        rw (sorted_count, le-leb (5 * r) (length w) h, e, here, behind)

  -- the log has fewer records than diagnostics: what `clear` leaves
  pub log_cleared : length w < 5 * r → replicate (length w) 0 ≡ log_after (length w) (sort ds)
  unfolding log_after
  log_cleared h = rw (sorted_count, lt-leb (5 * r) (length w) h)
