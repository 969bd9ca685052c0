-- The symbols that are left go behind what is written.
use Rattle.form_lists.proofs.Lists.{codes_all, codes_here, codes-left, symbols-start, symbols-on, symbols-end}
use Rattle.form_lists.proofs.symbols.Goals as goal

pub loop-i-init : goal.loop-i-init
loop-i-init c = record { valid = codes_all _ _ _ _ c.requires.2; goes = symbols-start _ _ _ _ _ }

pub symbol-requires : goal.symbol-requires
symbol-requires c = codes_here _ _ _ _ _ c.loop-i-test.true c.requires.0 _ c.word.ensures c.loop-i.invariant.valid

pub loop-i-preserved : goal.loop-i-preserved
loop-i-preserved c =
    let t = c.loop-i-test.true in
    let l = c.loop-i.invariant in
    record {
      valid = codes-left _ _ _ _ _ t c.requires.0 _ c.word.ensures l.valid;
      goes = symbols-on _ _ _ _ _ t c.requires.0 _ c.word.ensures _ _ _ _ _ c.comma.ensures l.goes c.symbol.ensures;
    }

pub returns : goal.returns
returns c = symbols-end _ _ _ _ _ _ _ _ c.loop-i-test.false c.loop-i.invariant.goes
