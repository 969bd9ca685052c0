-- Paper 01, "What a call returns": the whole outcome of a call, from what it was lent.
use Rattle.std.specs.Prelude.{ℕ, ◌+◌, ◌-◌, ◌*◌, ◌/◌, ◌%◌, Bool, true, false, ◌||◌, List, [], ◌∷◌, ◌++◌, Some, None, eqb, nat_le, ltb, length, drop, replicate, Option}
use Rattle.chars.specs.Utf8.{decode, encode, valid_up_to}
use Rattle.chars.specs.Class.{first_outside}
use Rattle.lexer.specs.Tokens.{Span}
pub use Rattle.lexer.specs.Words.{max_bytes, work_needed}
use Rattle.machine.specs.declared.Head.{Head}
use Rattle.language.specs.Content.{content_of}
use Rattle.language.specs.Lines.{Line, read_lines}
use Rattle.language.specs.Assembly.{Diagnostic, diagnostics, body_of, kept}
use Rattle.language.specs.Infer.{machine_of}
use Rattle.language.specs.Layout.{head_of, head_words, sheet_words, sheet_length, log_words}
use Rattle.language.specs.Plain.{plain}

-- ---- refusals

-- why a call is refused
pub data Refusal : Type 0 where
  text_too_long work_too_short : Refusal
  invalid_utf8 outside_set : ℕ → Refusal
  log_too_short sheet_too_short output_too_short : ℕ → Refusal

-- the number that is returned, and the value beside it: a place, a count, words or bytes needed
abbrev pub refusal_numbers : Refusal → ℕ × ℕ
refusal_numbers text_too_long = (1, 0)
refusal_numbers work_too_short = (2, 0)
refusal_numbers (invalid_utf8 o) = (3, o)
refusal_numbers (outside_set o) = (4, o)
refusal_numbers (log_too_short n) = (5, n)
refusal_numbers (sheet_too_short n) = (6, n)
refusal_numbers (output_too_short n) = (7, n)

-- the number of a refusal
abbrev pub refusal_number : Refusal → ℕ
refusal_number r = (refusal_numbers r).0

-- the value of a refusal
abbrev pub refusal_value : Refusal → ℕ
refusal_value r = (refusal_numbers r).1

-- the numbers that leave work untouched too, rows 1 and 2: paper 01 leaves its contents to the program for every other answer
abbrev pub leaves_work_number : ℕ → Bool
leaves_work_number n = eqb n 1 || eqb n 2

-- rows 1 to 4, in their order: what a text and a length of work are refused for
unfoldable pub refusal_of : List ℕ → ℕ → Option Refusal
unfolding valid_up_to first_outside
refusal_of t work =
    elim (ltb max_bytes (length t)) [
      | true ↦ Some text_too_long
      | false ↦ elim (ltb work (work_needed (length t))) [
        | true ↦ Some work_too_short
        | false ↦ elim (ltb (valid_up_to t) (length t)) [
          | true ↦ Some (invalid_utf8 (valid_up_to t))
          | false ↦ elim (first_outside t) [ Some o ↦ Some (outside_set o) | None ↦ None ]
        ]
      ]
    ]

-- a text is admitted: UTF-8, of at most 4,194,304 bytes, all characters in the set
unfoldable pub admitted : List ℕ → Bool
unfolding refusal_of
admitted t = elim (refusal_of t (work_needed (length t))) [ None ↦ true | Some r ↦ false ]

-- ---- reading

-- n zeros
abbrev pub zeros : ℕ → List ℕ
zeros n = replicate n 0

-- what a reading call answers: a machine's head, a count of diagnostics, or a refusal
pub data Reply : Type 0 where
  machine : Head → Reply
  diagnosed : ℕ → Reply
  refused : Refusal → Reply

-- the number that says that diagnostics are counted
abbrev pub diagnostics_number : ℕ
diagnostics_number = 4294967295

-- a reply as a number and a value: 0 and 0 for a machine, the count of diagnostics, or a refusal's
abbrev pub reply_number : Reply → ℕ
reply_number (machine h) = 0
reply_number (diagnosed n) = diagnostics_number
reply_number (refused r) = refusal_number r

-- the value of a reply
abbrev pub reply_value : Reply → ℕ
reply_value (machine h) = 0
reply_value (diagnosed n) = n
reply_value (refused r) = refusal_value r

-- the words of a head
abbrev pub head_size : ℕ
head_size = 33

-- the head of a reply in words, zero where there is none
abbrev pub reply_head : Reply → List ℕ
reply_head (machine h) = head_words h
reply_head (diagnosed n) = zeros head_size
reply_head (refused r) = zeros head_size

-- the words of an answer: its number, two of its value, and its head
abbrev pub answer_size : ℕ
answer_size = 3 + head_size

-- an answer in words: its number; its value, low word first; its head
abbrev pub words_of : ℕ → ℕ → List ℕ → List ℕ
words_of number value head = number ∷ value % 4294967296 ∷ value / 4294967296 ∷ head

-- a reply in words
unfoldable pub reply_words : Reply → List ℕ
unfolding head_words
reply_words r = words_of (reply_number r) (reply_value r) (reply_head r)

-- what a reading call answers, and the log (of words, or of records) and the sheet as it leaves them
pub record ReadOutcome (L : Type 0) : Type 0 where
  pub reply : Reply
  pub log : L
  pub sheet : List ℕ

-- words at the front of n words, the rest zero
abbrev pub filled : List ℕ → ℕ → List ℕ
filled ws n = ws ++ zeros (n - length ws)

-- lines that hold diagnostics, and a log and a sheet of so many words: row 5
unfoldable pub read_diagnostics : List (Diagnostic Span) → ℕ → ℕ → ReadOutcome (List ℕ)
unfolding log_words
read_diagnostics ds log sheet =
    elim (ltb (log / 5) (length ds)) [
      | true ↦ record { reply = refused (log_too_short (length ds)); log = zeros log; sheet = zeros sheet }
      | false ↦ record { reply = diagnosed (length ds); log = filled (log_words ds) log; sheet = zeros sheet }
    ]

-- the words that the sheet of a list of lines needs, found without expanding a rule
unfoldable pub words_needed : List (Line Span) → ℕ
unfolding machine_of body_of kept sheet_length
words_needed ls = sheet_length (machine_of ls) (kept 0 (body_of ls).rules)

-- lines without diagnostics: row 6
unfoldable pub read_machine : List (Line Span) → ℕ → ℕ → ReadOutcome (List ℕ)
unfolding machine_of head_of sheet_words words_needed
read_machine ls log sheet =
    let m = machine_of ls in
    let needed = words_needed ls in
    elim (ltb sheet needed) [
      | true ↦ record { reply = refused (sheet_too_short needed); log = zeros log; sheet = zeros sheet }
      | false ↦ record { reply = machine (head_of m); log = zeros log; sheet = filled (sheet_words m) sheet }
    ]

-- lines with their diagnostics: with any there is no machine
unfoldable pub read_with : List (Diagnostic Span) → List (Line Span) → ℕ → ℕ → ReadOutcome (List ℕ)
unfolding read_diagnostics read_machine
read_with [] ls log sheet = read_machine ls log sheet
read_with (d ∷ ds) ls log sheet = read_diagnostics (d ∷ ds) log sheet

-- a reading call: the text, how many words of work, and the log and the sheet at entry
unfoldable pub read_outcome : List ℕ → ℕ → List ℕ → List ℕ → ReadOutcome (List ℕ)
unfolding refusal_of read_lines decode diagnostics read_with
read_outcome t work log sheet = elim (refusal_of t work) [
  | Some r ↦ record { reply = refused r; log = log; sheet = sheet }
  | None ↦ (let ls = read_lines (decode t) in read_with (diagnostics ls) ls (length log) (length sheet))
]

-- ---- writing

-- what a writing call answers: the form's length, a count of diagnostics, or a refusal
pub data WriteReply : Type 0 where
  written : ℕ → WriteReply
  not_written : ℕ → WriteReply
  not_read : Refusal → WriteReply

-- a reply as a number and a value: 0 and the form's length, the count of diagnostics, or a refusal's
abbrev pub write_number : WriteReply → ℕ
write_number (written n) = 0
write_number (not_written n) = diagnostics_number
write_number (not_read r) = refusal_number r

-- the value of a reply of writing
abbrev pub write_value : WriteReply → ℕ
write_value (written n) = n
write_value (not_written n) = n
write_value (not_read r) = refusal_value r

-- a reply in words, the head's zero
abbrev pub write_words : WriteReply → List ℕ
write_words r = words_of (write_number r) (write_value r) (zeros head_size)

-- what a writing call answers, and the log, the sheet and the output as it leaves them
pub record WriteOutcome (L : Type 0) : Type 0 where
  pub reply : WriteReply
  pub log : L
  pub sheet : List ℕ
  pub output : List ℕ

-- the plain form of an admitted text that reads as a machine, in bytes
unfoldable pub form_of : List ℕ → List ℕ
unfolding encode plain content_of machine_of read_lines decode
form_of t = encode (plain (content_of (machine_of (read_lines (decode t)))))

-- a form at the output's front: row 7
unfoldable pub write_form : List ℕ → ReadOutcome (List ℕ) → List ℕ → WriteOutcome (List ℕ)
write_form form r output =
    let n = length form in
    elim (ltb (length output) n || ltb max_bytes n) [
      | true ↦ record { reply = not_read (output_too_short n); log = r.log; sheet = r.sheet; output = output }
      | false ↦ record { reply = written n; log = r.log; sheet = r.sheet; output = form ++ drop n output }
    ]

-- behind a reading: only a machine's form is written
unfoldable pub write_with : ReadOutcome (List ℕ) → List ℕ → List ℕ → WriteOutcome (List ℕ)
unfolding write_form
write_with r form output = elim r.reply [
  | machine h ↦ write_form form r output
  | diagnosed n ↦ record { reply = not_written n; log = r.log; sheet = r.sheet; output = output }
  | refused x ↦ record { reply = not_read x; log = r.log; sheet = r.sheet; output = output }
]

-- a writing call: the text, how many words of work, and the log, the sheet and the output at entry
unfoldable pub write_outcome : List ℕ → ℕ → List ℕ → List ℕ → List ℕ → WriteOutcome (List ℕ)
unfolding read_outcome form_of write_with
write_outcome t work log sheet output = write_with (read_outcome t work log sheet) (form_of t) output

-- ---- what the exported calls give

-- the words of an answer at the front of a row that has room for all of them, else nothing changed
abbrev pub at_front : List ℕ → List ℕ → List ℕ
at_front words row = elim (nat_le answer_size (length row)) [ true ↦ words ++ drop answer_size row | false ↦ row ]

-- an exported reading call: the number that it returns, the row that is lent for the answer, the log and the sheet
unfoldable pub read_given : {L : Type 0} → ReadOutcome L → List ℕ → ℕ × List ℕ × L × List ℕ
unfolding reply_words
read_given o row = (reply_number o.reply, at_front (reply_words o.reply) row, o.log, o.sheet)

-- an exported writing call: the same, and the output
unfoldable pub write_given : {L : Type 0} → WriteOutcome L → List ℕ → ℕ × List ℕ × L × List ℕ × List ℕ
write_given o row = (write_number o.reply, at_front (write_words o.reply) row, o.log, o.sheet, o.output)
