-- The answer of `write`, in words.
use Rattle.language.proofs.Given.{written_number, write_gives, leaves_as}
use Rattle.writer_answer.specs.Answer.{write_in}
use Rattle.writer.proofs.pevzoncs_write.Goals as goal

pub returns : goal.returns
returns c =
    let g = c.give.ensures in
    let x = write_in c.write.result c.write.new.log c.write.new.sheet c.write.new.output in (
      write_gives c.answer_words.result c.args.answer.now c.give.new.row c.give.result g.1 g.0 x c.answer_words.ensures _ c.write.ensures.0,
      leaves_as _ _ (written_number c.answer_words.result c.args.answer.now c.give.new.row c.give.result g.1 g.0 x c.answer_words.ensures) c.write.ensures.1,
    )
