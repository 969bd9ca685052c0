-- What is lent holds the form at the end.
use Rattle.std.proofs.Common.{arith}
use Rattle.std.proofs.lemmas.Grind.{common_steps}
use Rattle.form.proofs.Form.{form-held}
use Rattle.form.proofs.plain_form.Goals as goal

pub returns : goal.returns
returns c =
    let e = form-held _ _ _ (omega arith) c.lines.ensures in
    grind (arith, common_steps, e)
