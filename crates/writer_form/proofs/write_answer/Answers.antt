-- `writer_form::write_answer` meets its contract: a machine's form is written, and a number of diagnostics or a refusal handed
-- on.
use Rattle.std.proofs.Common.{Ok, ap, sym, ◌∙◌}
use Rattle.std.proofs.lemmas.Result.{err_from_is_err_and}
use mathlib.Core.Bool.{false≢true}
use Rattle.writer_form.proofs.Handed.{machine-written, diagnostics_handed, refusal_handed, form_touches}
use Rattle.writer_form.proofs.write_answer.Goals as goal

pub returns-in_err-read-clause-outcome : goal.returns-in_err-read-clause-outcome
returns-in_err-read-clause-outcome c =
    let p = err_from_is_err_and c.from_residual.result c.from_residual.ensures.1 in
    rw (p.1, p.2) (refusal_handed _ _ _ _ _ c.in_err-read.was)

pub write_form-requires : goal.write_form-requires
write_form-requires c = c.requires _ (c.in_ok-read.was ∙ ap Ok c.in-Machine.is)

pub returns-in-Machine-clause-outcome : goal.returns-in-Machine-clause-outcome
returns-in-Machine-clause-outcome c = machine-written _ _ _ _ _ (c.in_ok-read.was ∙ ap Ok c.in-Machine.is) c.write_form.result _ c.write_form.ensures

pub returns-in-Machine-clause-touches : goal.returns-in-Machine-clause-touches
returns-in-Machine-clause-touches c h = absurd (false≢true (sym (form_touches _ _ _ c.write_form.result c.write_form.ensures) ∙ h))

pub returns-in-Diagnostics-clause-outcome : goal.returns-in-Diagnostics-clause-outcome
returns-in-Diagnostics-clause-outcome c = diagnostics_handed _ _ _ _ _ (c.in_ok-read.was ∙ ap Ok c.in-Diagnostics.is)
