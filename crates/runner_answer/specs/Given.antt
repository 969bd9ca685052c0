-- Paper 02, request 2: how a batch is lent to a call, and what the exported call gives.
use Rattle.std.specs.Prelude.{ℕ, List, get_or}
use Rattle.reader_answer.specs.Front.{front_put}
use Rattle.running.specs.Batch.{BatchLent, BatchReply, BatchOutcome, batch_words}

-- what a call was lent, row by row
abbrev pub lent : List ℕ → List ℕ → ℕ → ℕ → List ℕ → List ℕ → List ℕ → List ℕ → BatchLent
lent texts lengths allowance work log sheet cells answers = record {
  texts = texts;
  lengths = lengths;
  allowance = allowance;
  work = work;
  log = log;
  sheet = sheet;
  cells = cells;
  answers = answers;
}

-- the number that is returned
abbrev pub batch_number : BatchReply → ℕ
batch_number r = get_or (batch_words r) 0 0

-- how many words the answer of a batch has
abbrev pub batch_size : ℕ
batch_size = 3

-- an exported batch call: the number that it returns, the row that is lent for the answer, and the others
unfoldable pub batch_given : BatchOutcome → List ℕ → ℕ × List ℕ × List ℕ × List ℕ × List ℕ × List ℕ
batch_given o row = (batch_number o.reply, front_put batch_size (batch_words o.reply) row, o.log, o.sheet, o.cells, o.answers)
