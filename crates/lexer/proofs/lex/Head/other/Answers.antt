-- `lexer::lex::Head::other` meets its contract: an underscore begins a word.
use Rattle.std.proofs.Common.{rules, refl, ◌∙◌}
use Rattle.lexer.proofs.Pieces.{other_word, other_sign}
use Rattle.lexer.proofs.lex.Head.other.Goals as goal

pub returns-then-self-eq95 : goal.returns-then-self-eq95
returns-then-self-eq95 c = search (rules, other_word)

pub returns-else-self-eq95 : goal.returns-else-self-eq95
returns-else-self-eq95 c = let h = c.args.self.now in c.sign.ensures ∙ other_sign _ _ _ _ h.behind _ c.if-self-eq95.false c.requires.unquoted.0 c.requires.unquoted.1 c.requires.no_slash refl
