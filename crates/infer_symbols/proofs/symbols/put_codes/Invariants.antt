-- The codes from here on are still to be stored.
use Rattle.std.proofs.Common.{drop}
use Rattle.language.specs.Layout.{flat}
use Rattle.sheet.proofs.Puts.{Left}
use Rattle.infer_symbols.specs.Alphabets.{inferred_words}
use Rattle.infer_symbols.proofs.symbols.put_codes.Given as goal

abbrev pub invariant-loop-c : goal.invariant-loop-c
invariant-loop-c l = Left (flat inferred_words (drop l.c-index l.codes)) l.sheet (flat inferred_words l.codes) l.fn.sheet
