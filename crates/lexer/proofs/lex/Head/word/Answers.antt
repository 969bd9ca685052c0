-- `lexer::lex::Head::word` meets its contract: one character is its own value; a longer word is looked up.
use Rattle.std.proofs.Common.{rules, ◌∙◌}
use Rattle.lexer.proofs.Pieces.{word-one, word_long, word_fits}
use Rattle.lexer.proofs.lex.Head.word.Goals as goal

pub returns-then-end-self : goal.returns-then-end-self
returns-then-end-self c = c.token.ensures ∙ search (rules, word-one)

pub overflow_add-k : goal.overflow_add-k
overflow_add-k c = search (rules, word_fits)

pub returns : goal.returns
returns c = let h = c.args.self.now in c.token-2.ensures ∙ word_long _ _ _ _ _ h.behind h.read h.inside c.word_end-end.ensures _ _ c.if-end-self.false c.part_of.ensures.bytes c.keyword_of-k.ensures
