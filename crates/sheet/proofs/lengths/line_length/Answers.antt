-- The number of choices times the length of each, and the comments that lead the first.
use Rattle.std.proofs.Common.{rules, arith, ◌<◌, ◌^◌}
use Rattle.sheet.proofs.CommentLaws.{many}
use Rattle.sheet.proofs.RowLaws.{length-other, length-rule-line, product_fits, leads_fit, length_fits}
use Rattle.sheet.proofs.lengths.line_length.Goals as goal

pub returns-then-t-ne-RULE : goal.returns-then-t-ne-RULE
returns-then-t-ne-RULE c = length-other _ _ _ _ c.if-t-ne-RULE.true

pub overflow_mul-result-2 : goal.overflow_mul-result-2
overflow_mul-result-2 c =
    let word : c.at-arity.result.start < 2 ^ 32 = search rules in
    product_fits _ _ _ c.combinations-n.ensures word

pub overflow_mul-result-3 : goal.overflow_mul-result-3
overflow_mul-result-3 c = leads_fit _ _ _ _ c.count_between-k.ensures (omega (arith, c.requires.0, many c.args.tokens.now))

pub overflow_add-result-2 : goal.overflow_add-result-2
overflow_add-result-2 c =
    let word : c.at-arity.result.start < 2 ^ 32 = search rules in
    length_fits _ _ _ c.combinations-n.ensures word _ _ _ _ c.count_between-k.ensures (omega (arith, c.requires.0, many c.args.tokens.now))

pub returns : goal.returns
returns c = length-rule-line _ _ _ _ _ _ _ _ _ c.if-t-ne-RULE.false c.at-arity.ensures c.at-to.ensures c.combinations-n.ensures c.lead_from.ensures c.count_between-k.ensures
