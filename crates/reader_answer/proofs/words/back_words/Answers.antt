-- The fields are the last words of the definition, in its order.
use Rattle.language.specs.Layout.{head_words}
use Rattle.reader_answer.proofs.AnswerWords.{two_words}
use Rattle.reader_answer.proofs.words.back_words.Goals as goal

pub returns : goal.returns
unfolding head_words
returns c = rw (two_words c.args.head.output)
