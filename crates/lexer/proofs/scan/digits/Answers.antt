-- `lexer::scan::digits` meets its contract: one more digit, or their end.
use Rattle.std.proofs.Common.{rules, arith, refl, sym, ◌∙◌}
use Rattle.lexer.proofs.Scans.{run_on, run_off, run_none, counted_start, counted-on, counted_off, counted_none, digit_range}
use Rattle.chars.proofs.Laws.{char_falls}
use Rattle.lexer.proofs.scan.digits.Goals as goal

pub loop-c-init : goal.loop-c-init
loop-c-init c = (refl, counted_start _ _)

pub returns-then-not-is_ascii_digit-clause-end : goal.returns-then-not-is_ascii_digit-clause-end
returns-then-not-is_ascii_digit-clause-end c = search (rules, run_off)

pub returns-then-not-is_ascii_digit-clause-value : goal.returns-then-not-is_ascii_digit-clause-value
returns-then-not-is_ascii_digit-clause-value c = search (rules, counted_off)

pub overflow_sub-c : goal.overflow_sub-c
overflow_sub-c c = omega (arith, digit_range _ (sym c.is_ascii_digit.ensures ∙ c.if-not-is_ascii_digit.false))

pub overflow_add-v : goal.overflow_add-v
overflow_add-v c = omega (arith, digit_range _ (sym c.is_ascii_digit.ensures ∙ c.if-not-is_ascii_digit.false), c.loop-c.invariant.1.small)

pub loop-c-smaller : goal.loop-c-smaller
loop-c-smaller c = search (rules, char_falls)

pub loop-c-preserved : goal.loop-c-preserved
loop-c-preserved c = (
  run_on _ _ _ _ c.char_at.ensures.found _ c.loop-c.invariant.0 _ _ _ c.in-Some.is c.is_ascii_digit.ensures c.if-not-is_ascii_digit.false,
  counted-on _ _ _ _ _ c.char_at.ensures.found c.loop-c.invariant.1 _ _ _ _ c.in-Some.is c.is_ascii_digit.ensures c.if-not-is_ascii_digit.false c.min-v.ensures,
)

pub returns-clause-end : goal.returns-clause-end
returns-clause-end c = search (rules, run_none)

pub returns-clause-value : goal.returns-clause-value
returns-clause-value c = search (rules, counted_none)
