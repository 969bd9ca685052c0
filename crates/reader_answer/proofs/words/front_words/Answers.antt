-- The fields are the first words of the definition, in its order.
use Rattle.language.specs.Layout.{head_words}
use Rattle.reader_answer.proofs.AnswerWords.{flag_is, two_words}
use Rattle.reader_answer.proofs.words.front_words.Goals as goal

pub returns : goal.returns
unfolding head_words
returns c =
    let h = c.args.head in
    let d = h.declared in
    rw (
      c.from.ensures,
      c.from-2.ensures,
      c.from-3.ensures,
      c.from-4.ensures,
      c.from-5.ensures,
      c.from-6.ensures,
      c.from-7.ensures,
      flag_is d.states,
      flag_is d.input_alphabet,
      flag_is d.tape_alphabet,
      flag_is d.start,
      flag_is d.blank,
      c.decoder_words.ensures,
      two_words h.output,
    )
