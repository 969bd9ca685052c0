-- Answers for `lexer::names::keyword_of`: a keyword of another length is not the name.
use Rattle.lexer.specs.Keywords.{keywords_of}
use Rattle.lexer.proofs.Keywords.{keyword_of-length, keyword_of-none}
use Rattle.std.proofs.Common.{rules}
use Rattle.lexer.proofs.names.keyword_of.Goals as goal

pub returns-in-1 : goal.returns-in-1
unfolding keywords_of
returns-in-1 c = keyword_of-length 1 _ _ c.in-1.is c.number_among.ensures

pub returns-in-2 : goal.returns-in-2
unfolding keywords_of
returns-in-2 c = keyword_of-length 2 _ _ c.in-2.is c.number_among-in-2.ensures

pub returns-in-3 : goal.returns-in-3
unfolding keywords_of
returns-in-3 c = keyword_of-length 3 _ _ c.in-3.is c.number_among-in-3.ensures

pub returns-in-4 : goal.returns-in-4
unfolding keywords_of
returns-in-4 c = keyword_of-length 4 _ _ c.in-4.is c.number_among-in-4.ensures

pub returns-in-5 : goal.returns-in-5
unfolding keywords_of
returns-in-5 c = keyword_of-length 5 _ _ c.in-5.is c.number_among-in-5.ensures

pub returns-in-6 : goal.returns-in-6
unfolding keywords_of
returns-in-6 c = keyword_of-length 6 _ _ c.in-6.is c.number_among-in-6.ensures

pub returns-in-7 : goal.returns-in-7
unfolding keywords_of
returns-in-7 c = keyword_of-length 7 _ _ c.in-7.is c.number_among-in-7.ensures

pub returns-in-8 : goal.returns-in-8
unfolding keywords_of
returns-in-8 c = keyword_of-length 8 _ _ c.in-8.is c.number_among-in-8.ensures

pub returns-in-10 : goal.returns-in-10
unfolding keywords_of
returns-in-10 c = keyword_of-length 10 _ _ c.in-10.is c.number_among-in-10.ensures

pub returns-in_default : goal.returns-in_default
returns-in_default c = search (rules, keyword_of-none)
