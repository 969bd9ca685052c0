-- Number, value and head are those of the reply.
use Rattle.language.specs.Outcome.{reply_words}
use Rattle.reader_answer.proofs.words.answer_words.Goals as goal

pub returns : goal.returns
unfolding reply_words
returns c = rw (c.words_of.ensures, c.answer_head-head.ensures, c.answer_number.ensures, c.answer_value.ensures, reply_words)
