-- `lexer::lex::Head::unmarked` meets its contract: one law for each class.
use Rattle.std.proofs.Common.{rules, refl, ◌∙◌}
use Rattle.lexer.proofs.Pieces.{from_feed, from_space, from_letter, from_digit, from_sign, from_other, digit_by, class_by}
use Rattle.lexer.proofs.lex.Head.unmarked.Goals as goal

ruleset laws = (rules, from_feed, from_space, from_letter, from_digit, from_sign, from_other, digit_by, class_by)

pub returns-then-self-eq10 : goal.returns-then-self-eq10
returns-then-self-eq10 c = c.token.ensures ∙ search laws

pub number-requires : goal.number-requires
number-requires c = search laws

pub returns-in-Space : goal.returns-in-Space
returns-in-Space c = search laws

pub returns-in-Letter : goal.returns-in-Letter
returns-in-Letter c = search laws

pub returns-in-Digit : goal.returns-in-Digit
returns-in-Digit c = search laws

pub returns-in-Sign : goal.returns-in-Sign
returns-in-Sign c = let h = c.args.self.now in c.sign.ensures ∙ from_sign _ _ _ _ h.behind c.if-self-eq10.false _ c.class_of.ensures _ c.in-Sign.is refl

pub returns-in-Other : goal.returns-in-Other
returns-in-Other c = search laws
