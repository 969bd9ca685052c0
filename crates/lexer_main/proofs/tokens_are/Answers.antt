-- Answers for `lexer_main::tokens_are`: the front of the row is the words of the tokens.
use Rattle.std.proofs.Common.{rules, ◌≡◌, ◌↔◌, ℕ, List, IsTrue, subst, sym, length-take-le}
use Rattle.lexer_main.proofs.Laws.{few_fits, few, written}
use Rattle.lexer_main.proofs.tokens_are.Goals as goal

pub overflow_mul-work : goal.overflow_mul-work
overflow_mul-work c = few_fits _ _ c.requires c.tokenize-n.ensures.0

pub slice_bounds-work-end : goal.slice_bounds-work-end
slice_bounds-work-end c = few _ _ c.requires c.tokenize-n.ensures.0 _ _ c.tokenize-n.ensures.1

pub slice_bounds-eq-end : goal.slice_bounds-eq-end
slice_bounds-eq-end c = sym (length-take-le _ _ (few _ _ c.requires c.tokenize-n.ensures.0 _ _ c.tokenize-n.ensures.1))

pub returns : goal.returns
returns c = subst (λ (l : List ℕ). IsTrue c.eq.result ↔ (l ≡ c.args.want.now)) (written _ _ c.requires c.tokenize-n.ensures.0 _ _ c.tokenize-n.ensures.1) (search rules)
