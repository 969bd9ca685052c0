use Rattle.std.proofs.Common.{refl}
use Rattle.infer_symbols.proofs.AlphabetLaws.{symbol-none, symbol-put, symbol-other, symbol-blank}
use Rattle.infer_symbols.proofs.glyphs.Symbols.put_symbol.Goals as goal

pub returns-then-not-is_symbol : goal.returns-then-not-is_symbol
returns-then-not-is_symbol c = symbol-none c.args.inferred _ _ _ _ c.is_symbol.ensures c.if-not-is_symbol.true

pub returns-then-not-inferred : goal.returns-then-not-inferred
returns-then-not-inferred c =
    symbol-put _ _ _ _ _ c.is_symbol.ensures c.if-not-is_symbol.false _ c.resolve-c.ensures _ c.if-not-inferred.true _ refl c.words.ensures

pub returns-then-c-self : goal.returns-then-c-self
returns-then-c-self c =
    symbol-other _ _ _ _ _ c.is_symbol.ensures c.if-not-is_symbol.false _ c.resolve-c.ensures c.if-not-inferred.false _ c.if-c-self.true c.words-then-c-self.ensures

pub returns-else-c-self : goal.returns-else-c-self
returns-else-c-self c = symbol-blank _ _ _ _ _ c.is_symbol.ensures c.if-not-is_symbol.false _ c.resolve-c.ensures c.if-not-inferred.false c.if-c-self.false
