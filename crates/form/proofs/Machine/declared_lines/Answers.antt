-- The lines of what may be declared, and that of F, stand one after the other.
use Rattle.std.proofs.Common.{◌∙◌}
use Rattle.form.proofs.Form.{sigma_same, gamma_same, sigma-scalar, gamma-scalar, declared-written}
use Rattle.form.proofs.Machine.declared_lines.Goals as goal

pub symbols_line-requires : goal.symbols_line-requires
symbols_line-requires c = (sigma-scalar, rw (c.sigma.ensures ∙ sigma_same c.args.self.now c.sections-sheet.result c.sections-sheet.ensures) c.args.self.now.formed.declared_part.sigma_codes)

pub symbols_line-requires-2 : goal.symbols_line-requires-2
symbols_line-requires-2 c = (gamma-scalar, rw (c.gamma.ensures ∙ gamma_same c.args.self.now c.sections-sheet.result c.sections-sheet.ensures) c.args.self.now.formed.declared_part.gamma_codes)

pub returns : goal.returns
returns c =
    let m = c.args.self.now in
    let s = c.sections-sheet in
    rw (c.sigma.ensures ∙ sigma_same m s.result s.ensures, c.gamma.ensures ∙ gamma_same m s.result s.ensures)
    at (declared-written m.text.now m.head m.sheet.now c.sigma.result.now c.gamma.result.now _ _ _ _ _ _ _ c.states_line.ensures c.symbols_line.ensures c.symbols_line-2.ensures
    c.blank_line.ensures c.start_line.ensures c.finals_line.ensures)
