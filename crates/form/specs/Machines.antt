-- The answer that the writer's machine is.
use Rattle.language.specs.Agreement.{Answer}
use Rattle.form.specs.declared.Machine.{Machine}
use Rattle.form.specs.Answers.{answer}

-- the answer
abbrev pub answer_of : Machine → Answer
answer_of m = answer m.head m.sheet.now m.text.now
