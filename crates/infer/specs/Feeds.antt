-- That the lines of a row end at their line feeds can be so in one way only.
use Rattle.std.specs.Prelude.{List, [], ◌∷◌}
use Rattle.std.specs.Coded.{×_prop, Unit-prop}
use Rattle.std.proofs.Math.Nat.{ℕ_set}
use Rattle.tokens.specs.declared.Token.{Token}
use Rattle.assembler.specs.Entries.{Entry, entries}
use Rattle.assembler.specs.Feeds.{AllFed, Fed}

-- that entries are fed can be so in one way only
all_fed : (es : List Entry) → IsProp (AllFed es)
all_fed [] = Unit-prop
all_fed (e ∷ es) = ×_prop (ℕ_set _ _) (all_fed es)

-- that a row is fed can be so in one way only
pub fed_one : (ts : List Token) → IsProp (Fed ts)
fed_one ts = all_fed (entries ts)
