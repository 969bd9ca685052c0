-- A text that is refused leaves everything as it was.
use Rattle.std.proofs.Common.{refl, sym, Err}
use Rattle.std.proofs.lemmas.Result.{err_from_is_err_and}
use Rattle.reader_answer.specs.Answer.{refusal_in}
use Rattle.reader_steps.proofs.Outcomes.{not-admitted}
use Rattle.reader_records.proofs.read.Goals as goal

pub returns-in_err-opened : goal.returns-in_err-opened
returns-in_err-opened c =
    let p = err_from_is_err_and c.from_residual.result c.from_residual.ensures.1 in
    let e = c.in_err-opened.ensures in
    let r = c.in_err-opened.field-0.0 in
    (rw (p.1, p.2, e.err.1) (not-admitted _ _ _ _ (Err r) (refusal_in r) (sym e.refused) refl), λ _. e.err.0)
