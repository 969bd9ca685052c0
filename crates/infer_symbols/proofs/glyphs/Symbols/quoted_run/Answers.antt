use Rattle.std.proofs.Common.{ap, ◌∙◌, ◌-◌}
use Rattle.infer_symbols.proofs.AlphabetLaws.{running_start, running_on}
use Rattle.infer_symbols.proofs.glyphs.Symbols.quoted_run.Goals as goal

pub loop-i-init : goal.loop-i-init
loop-i-init c = running_start _ _ _ _ _

pub loop-i-preserved : goal.loop-i-preserved
loop-i-preserved c =
    running_on _ _ _ _ _ _ _ _ c.loop-i.invariant c.args.self.now.tokens.within _ (c.saturating_sub-last.ensures ∙ ap (λ n. n - 1) c.min.ensures) c.loop-i-test.true _ c.quoted_pair.ensures c.if-quoted_pair.true
    _ c.token_at.ensures _ c.put_symbol.ensures
