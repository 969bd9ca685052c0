-- The answer of `read`, in words.
use Rattle.language.proofs.Given.{read_number, read_gives, leaves_as}
use Rattle.reader_answer.specs.Answer.{read_in}
use Rattle.reader.proofs.pevzoncs_read.Goals as goal

pub returns : goal.returns
returns c =
    let g = c.give.ensures in
    let x = read_in c.read.result c.read.new.log c.read.new.sheet in (
      read_gives c.answer_words.result c.args.answer.now c.give.new.row c.give.result g.1 g.0 x c.answer_words.ensures _ c.read.ensures.0,
      leaves_as _ _ (read_number c.answer_words.result c.args.answer.now c.give.new.row c.give.result g.1 g.0 x c.answer_words.ensures) c.read.ensures.1,
    )
