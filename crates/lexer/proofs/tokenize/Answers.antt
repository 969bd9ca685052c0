-- `lexer::tokenize` meets its contract: one law for each kind of piece.
use Rattle.std.proofs.Common.{refl, ap, ◌∙◌, arith}
use Rattle.std.proofs.Common.{◌*◌, [], ◌∷◌}
use Rattle.std.proofs.lemmas.List.Edits.{sets}
use Rattle.lexer.proofs.Writes.{state_start_lem, end_fits, gap_falls, state_gap, done_count, done_words, state_quick, state_blank, tag_word}
use Rattle.lexer.proofs.Commas.{comma_room, place_fits, state_both, both_falls, put_falls, state-put}
use Rattle.lexer.proofs.tokenize.Goals as goal

pub loop-v-init : goal.loop-v-init
loop-v-init c = state_start_lem _ _

pub loop-v-preserved-then-k-lt-BLANK : goal.loop-v-preserved-then-k-lt-BLANK
loop-v-preserved-then-k-lt-BLANK c =
    let h = c.if-k-lt-BLANK.true in
    state_quick _ _ _ _ _ _ c.loop-v.invariant (c.lead_at-k.ensures.quick (omega arith)) h _ _ _ refl c.value_of-v.ensures c.push.ensures

pub loop-v-preserved-then-k-eq-BLANK : goal.loop-v-preserved-then-k-eq-BLANK
loop-v-preserved-then-k-eq-BLANK c =
    let e = c.if-k-eq-BLANK.true in
    state_blank _ _ _ _ _ _ c.loop-v.invariant (c.lead_at-k.ensures.quick (omega arith)) e

pub loop-v-smaller-then-k-eq-LONG_WORD : goal.loop-v-smaller-then-k-eq-LONG_WORD
loop-v-smaller-then-k-eq-LONG_WORD c = put_falls _ _ _ _ _ c.loop-v.invariant _ _ _ c.word.ensures

pub loop-v-preserved-then-k-eq-LONG_WORD : goal.loop-v-preserved-then-k-eq-LONG_WORD
loop-v-preserved-then-k-eq-LONG_WORD c = state-put _ _ _ _ _ c.loop-v.invariant _ _ _ c.word.ensures

pub overflow_cast-end : goal.overflow_cast-end
overflow_cast-end c = end_fits _ _ _ _ _ _ c.loop-v.invariant c.in-Token.ensures _ _ _ _ refl c.requires.0

pub comma-m-requires : goal.comma-m-requires
comma-m-requires c = (c.requires.0, comma_room _ _ _ _ _ _ c.loop-v.invariant c.in-Token.ensures _ _ _ _ refl _ (c.push-in-Token.ensures ∙ ap (λ k. sets c.loop-v.work (4 * c.loop-v.n) (k ∷ c.loop-v.at ∷ c.in-Token.end ∷ c.in-Token.value ∷ [])) (tag_word c.in-Token.kind)) c.requires.1)

pub overflow_add-at-in-Token : goal.overflow_add-at-in-Token
overflow_add-at-in-Token c = place_fits _ _ _ _ _ _ c.loop-v.invariant c.in-Token.ensures _ _ _ _ refl _ (c.push-in-Token.ensures ∙ ap (λ k. sets c.loop-v.work (4 * c.loop-v.n) (k ∷ c.loop-v.at ∷ c.in-Token.end ∷ c.in-Token.value ∷ [])) (tag_word c.in-Token.kind)) _ c.requires.0 c.comma-m.ensures.0

pub loop-v-smaller-in-Token : goal.loop-v-smaller-in-Token
loop-v-smaller-in-Token c = both_falls _ _ _ _ _ _ c.loop-v.invariant c.in-Token.ensures _ _ _ _ refl _

pub loop-v-preserved-in-Token : goal.loop-v-preserved-in-Token
loop-v-preserved-in-Token c = state_both _ _ _ _ _ _ c.loop-v.invariant c.in-Token.ensures _ _ _ _ refl _ (c.push-in-Token.ensures ∙ ap (λ k. sets c.loop-v.work (4 * c.loop-v.n) (k ∷ c.loop-v.at ∷ c.in-Token.end ∷ c.in-Token.value ∷ [])) (tag_word c.in-Token.kind)) _ _ c.comma-m.ensures.1 c.comma-m.ensures.2

pub loop-v-smaller : goal.loop-v-smaller
loop-v-smaller c = gap_falls _ _ _ _ _ _ c.loop-v.invariant c.in-Gap.ensures _ refl

pub loop-v-preserved : goal.loop-v-preserved
loop-v-preserved c = state_gap _ _ _ _ _ _ c.loop-v.invariant c.in-Gap.ensures _ refl

pub returns-in-End : goal.returns-in-End
returns-in-End c = (done_count _ _ _ _ _ _ c.loop-v.invariant c.in-End.ensures refl, done_words _ _ _ _ _ _ c.loop-v.invariant c.in-End.ensures refl _ c.requires.1 c.push-in-End.ensures)
