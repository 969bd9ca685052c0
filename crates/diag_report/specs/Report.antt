-- The reply to diagnostics.
use Rattle.std.specs.Prelude.{ℕ, ◌/◌, true, false, ltb}
use Rattle.language.specs.Outcome.{Reply, diagnosed, refused, log_too_short}

-- the reply to k diagnostics and a log of n words: row 5
unfoldable pub report_reply : ℕ → ℕ → Reply
report_reply n k = elim (ltb (n / 5) k) [ true ↦ refused (log_too_short k) | false ↦ diagnosed k ]
