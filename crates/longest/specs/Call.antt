-- What a reader must believe of the call: the line at the front of the output, its length and number of rules; or a refusal.
use Rattle.std.specs.Prelude.{ℕ, ◌/◌, ◌%◌, ◌^◌, Bool, ◌&&◌, List, [], ◌∷◌, ◌++◌, cond, leb, length, drop, get_or, Result, Ok, Err}
use Rattle.longest.specs.declared.BestLine.{BestLine}
use Rattle.longest.specs.declared.LongestRefusal.{LongestRefusal}
use Rattle.longest.specs.declared.LongestRefusal.TheVariants.{OutOfRange}
use Rattle.longest.specs.Line.{pairs, line_for, number_for}

-- the number of a refusal
abbrev pub refusal_number : LongestRefusal → ℕ
refusal_number OutOfRange = 22

-- whether a line is written: for 15 to 96 bytes, where the output has as many
abbrev pub is_answered : ℕ → ℕ → Bool
is_answered n room = leb 15 n && (leb n 96 && leb n room)

-- what is answered of a line with its number of rules, and the output with the line at its front; what is behind it is as it was
abbrev pub lined : List ℕ → ℕ → List ℕ → Result BestLine LongestRefusal × List ℕ
lined line rules output = (Ok (record { length = length line; rules = rules }), line ++ drop (length line) output)

-- the call's whole outcome: what is answered, and the output afterwards
unfoldable pub longest : ℕ → List ℕ → Result BestLine LongestRefusal × List ℕ
longest n output =
    cond (is_answered n (length output)) (lined (line_for (pairs n)) (number_for (pairs n)) output) (Err OutOfRange, output)

-- the words of an answer: its number, the length of the line, and the number of rules, low word first
abbrev pub answer_words : Result BestLine LongestRefusal → List ℕ
answer_words (Ok l) = 0 ∷ l.length ∷ l.rules % 2 ^ 32 ∷ l.rules / 2 ^ 32 ∷ []
answer_words (Err r) = refusal_number r ∷ 0 ∷ 0 ∷ 0 ∷ []

-- the words of an answer at the front of a row that has room for all four, else nothing changed
abbrev pub stored : List ℕ → List ℕ → List ℕ
stored words row = cond (leb 4 (length row)) (words ++ drop 4 row) row

-- what the exported call gives of an outcome: the number that it returns, the output, and the row that is lent for the answer
unfoldable pub given : Result BestLine LongestRefusal × List ℕ → List ℕ → ℕ × List ℕ × List ℕ
given o row = (get_or (answer_words o.0) 0 0, o.1, stored (answer_words o.0) row)
