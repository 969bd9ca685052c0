-- The log's words after row 5: cleared, or sorted.
use mathlib.Core.Path.{◌≡◌, ◌∙◌}
use mathlib.Core.List.{List, ◌++◌}
use Prim.Native.Nat.{ℕ, ◌-◌, ◌*◌, ◌/◌, ◌≤◌, ◌<◌}
use native.Mathlib.Omega.{arith}
use borrow.Author.Tests.{lt-ltb, le-ltb}
use lib.ListN.{length, take, drop, replicate}
use Rattle.language.specs.Outcome.{diagnosed, refused, log_too_short}
use Rattle.diag.specs.declared.Diagnostic.{Diagnostic}
use Rattle.diag.specs.Log as D
use Rattle.diag.proofs.Logs.{log_sorted, log_cleared}
use Rattle.diag_report.specs.Report.{report_reply}

-- the reply
module _ (n k : ℕ) where
  pub reply_refused : n / 5 < k → refused (log_too_short k) ≡ report_reply n k
  unfolding report_reply
  reply_refused h = rw (report_reply, lt-ltb (n / 5) k h)

  pub reply_given : k ≤ n / 5 → diagnosed k ≡ report_reply n k
  unfolding report_reply
  reply_given h = rw (report_reply, le-ltb (n / 5) k h)

module _ (w : List ℕ) (k : ℕ) (row : List ℕ) (ds : List Diagnostic) (is : D.logged w k ≡ D.append_all (D.logged row 0) ds) where
  pub cleared_after : (w' : List ℕ) → length w / 5 < k → w' ≡ replicate (length w) 0 → w' ≡ D.log_after (length w) (D.sort ds)
  cleared_after w' h e = e ∙ log_cleared row w k ds is (omega arith)

  pub sorted_after : (w₁ w' : List ℕ) → k ≤ length w / 5 → w₁ ≡ take (5 * k) w ++ replicate (length w - 5 * k) 0 → w' ≡ D.flat (D.sort (D.records k w₁)) ++ drop (5 * k) w₁ → w' ≡ D.log_after (length w) (D.sort ds)
  sorted_after w₁ w' h c e = log_sorted row w k ds is (omega arith) w₁ c w' e
