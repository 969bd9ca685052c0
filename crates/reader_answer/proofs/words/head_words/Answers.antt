-- The two parts stand one after the other.
use Rattle.language.specs.Layout.{head_words}
use Rattle.reader_answer.proofs.AnswerWords.{two_words}
use Rattle.reader_answer.proofs.words.head_words.Goals as goal

pub returns : goal.returns
unfolding head_words
returns c =
    rw (c.copy_from_slice.ensures.after, c.front_words.ensures, c.copy_from_slice-2.ensures.after, c.back_words.ensures, two_words c.args.head.output)
