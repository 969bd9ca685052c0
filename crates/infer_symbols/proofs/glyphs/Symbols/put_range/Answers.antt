use Rattle.std.proofs.Common.{rules}
use Rattle.tokens.specs.Listed.{tokens_of}
use Rattle.infer_symbols.specs.Alphabets.{symbol_words}
use Rattle.infer_symbols.proofs.AlphabetLaws.{past_falls, putting_on, putting_end}
use Rattle.infer_symbols.proofs.glyphs.Symbols.put_range.Goals as goal

ruleset laws = (rules, past_falls)

pub loop-i-smaller : goal.loop-i-smaller
loop-i-smaller c = search laws

pub loop-i-preserved : goal.loop-i-preserved
loop-i-preserved c =
    putting_on (symbol_words c.args.inferred c.args.self.now.blank) (tokens_of c.args.self.now.tokens) c.args.from c.args.to _ _ _ _ c.loop-i.invariant _ c.loop-i-test.true c.at.ensures _ c.put_symbol.ensures
    _ c.past_comma-i.ensures _ c.quoted_run-i.ensures.on c.quoted_run-i.ensures.near _ c.quoted_run-i.ensures.puts

pub returns : goal.returns
returns c =
    let stored = putting_end (symbol_words c.args.inferred c.args.self.now.blank) (tokens_of c.args.self.now.tokens) c.args.from c.args.to _ _ _ _ c.loop-i.invariant c.loop-i-test.false in
    search rules
