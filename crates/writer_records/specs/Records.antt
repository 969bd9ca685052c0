-- A writing call whose log is a row of records: its outcome is that of the call on words, the log's words taken as records.
use Rattle.std.specs.Prelude.{ℕ, List, length}
use Rattle.diag.specs.declared.Diagnostic.{Diagnostic}
use Rattle.diag.specs.Records.{flat, records}
use Rattle.language.specs.Outcome.{WriteOutcome, write_outcome}

-- a writing call: the text, how many words of work, and the log, the sheet and the output at entry
unfoldable pub write_records : List ℕ → ℕ → List Diagnostic → List ℕ → List ℕ → WriteOutcome (List Diagnostic)
unfolding write_outcome flat records
write_records t work log sheet output =
    let o = write_outcome t work (flat log) sheet output in
    record { reply = o.reply; log = records (length log) o.log; sheet = o.sheet; output = o.output }
