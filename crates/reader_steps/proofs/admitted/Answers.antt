-- Each of the three ends is a stage of reading with the log still to be written.
use Rattle.reader_steps.proofs.Stages.{opens_machine, opens_too_many, opens_diagnosed}
use Rattle.reader_steps.proofs.admitted.Goals as goal

pub returns-then-errors-eq0 : goal.returns-then-errors-eq0
returns-then-errors-eq0 c = opens_machine _ _ _ _ c.requires _ _ c.enter-search.ensures c.if-errors-eq0.true _ _ _ c.machine.ensures

pub returns-then-records-errors : goal.returns-then-records-errors
returns-then-records-errors c = opens_too_many _ _ _ _ c.requires _ _ c.enter-search.ensures c.if-errors-eq0.false _ (c.fill.ensures.after (λ _ e. e)) c.if-records-errors.true

pub returns : goal.returns
returns c = opens_diagnosed _ _ _ _ c.requires _ _ c.enter-search.ensures c.if-errors-eq0.false _ (c.fill.ensures.after (λ _ e. e)) c.if-records-errors.false
