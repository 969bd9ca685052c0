use Rattle.std.proofs.Common.{refl}
use Rattle.infer_symbols.proofs.AlphabetLaws.{coding_on, coding_end}
use Rattle.infer_symbols.proofs.symbols.put_codes.Goals as goal

pub loop-c-preserved : goal.loop-c-preserved
loop-c-preserved c = coding_on _ _ _ _ c.loop-c.invariant c.loop-c-test.true _ refl _ c.symbol.ensures

pub returns : goal.returns
returns c = coding_end _ _ _ _ c.loop-c.invariant c.loop-c-test.false
