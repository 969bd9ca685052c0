-- A reading call whose log is a row of records: its outcome is that of the call on words, the log's words taken as records.
use Rattle.std.specs.Prelude.{ℕ, List, length}
use Rattle.diag.specs.declared.Diagnostic.{Diagnostic}
use Rattle.diag.specs.Records.{flat, records}
use Rattle.language.specs.Outcome.{ReadOutcome, read_outcome}

-- a reading call: the text, how many words of work, and the log and the sheet at entry
unfoldable pub read_records : List ℕ → ℕ → List Diagnostic → List ℕ → ReadOutcome (List Diagnostic)
unfolding read_outcome flat records
read_records t work log sheet =
    let o = read_outcome t work (flat log) sheet in
    record { reply = o.reply; log = records (length log) o.log; sheet = o.sheet }
