-- What is said of a text before it is read, in the definition's terms.
use Rattle.std.specs.Prelude.{Result, Ok, Err, Option, None, Some}
use Rattle.language.specs.Outcome as O
use Rattle.reader_answer.specs.declared.Refusal.{Refusal}
use Rattle.reader_answer.specs.Answer.{refusal_in}

-- whether a text is refused before it is read, and why
abbrev pub refused_by : {A : Type 0} → Result A Refusal → Option O.Refusal
refused_by (Ok x) = None
refused_by (Err r) = Some (refusal_in r)
