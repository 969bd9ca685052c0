use Rattle.std.proofs.Common.{arith, sym, ap, ◌∙◌, ◌<◌, length}
use Rattle.tokens.specs.Listed.{tokens_of}
use Rattle.infer.proofs.Pages.{indices_stop, indices_end}
use Rattle.infer.proofs.SectionLaws.{placing_start, placing_end, placing_state, placing_other}
use Rattle.infer.proofs.finals.places.Goals as goal
use Rattle.infer.proofs.finals.places.Goals.{then-is_state, else-is_state}

pub loop-x-init : goal.loop-x-init
loop-x-init c = placing_start _ c.args.line _

pub returns-then-t-eq-NEWLINE : goal.returns-then-t-eq-NEWLINE
returns-then-t-eq-NEWLINE c =
    placing_end _ _ _ _ _ c.loop-x.invariant (indices_stop _ _ (omega (arith, c.loop-x-test.true, c.len-x-end.ensures.tokens)) (ap (λ t. t.kind) (sym c.at-t.ensures) ∙ c.if-t-eq-NEWLINE.true))

pub loop-x-preserved : goal.loop-x-preserved
loop-x-preserved c =
    let low : c.loop-x.x < length (tokens_of c.args.tokens.now) = omega (arith, c.loop-x-test.true, c.len-x-end.ensures.tokens) in
    elim c.if-is_state.branch [
      | then-is_state w ↦
          placing_state _ _ _ _ _ c.loop-x.invariant _ c.at-t.ensures low c.if-t-eq-NEWLINE.false _ c.is_state.ensures _ _ _ w.out-is w.if-is_state.true w.span_of.ensures w.place.ensures
      | else-is_state w ↦ placing_other _ _ _ _ _ c.loop-x.invariant _ c.at-t.ensures low c.if-t-eq-NEWLINE.false _ c.is_state.ensures _ w.out-is w.if-is_state.false
    ]

pub returns : goal.returns
returns c = placing_end _ _ _ _ _ c.loop-x.invariant (indices_end _ _ (omega (arith, c.loop-x-test.false, c.len-x-end.ensures.tokens)))
