-- `infer_symbols::codes::Codes::is_seen` meets its contract: what the hint shows, and that a hint is right.
use Rattle.std.proofs.Common.{rules}
use Rattle.infer_symbols.proofs.CodeLaws.{shown_some, shown_none}
use Rattle.infer_symbols.proofs.codes.Codes.is_seen.Goals as goal

pub returns-in-Some-clause-value : goal.returns-in-Some-clause-value
returns-in-Some-clause-value c = search (rules, shown_some)

pub returns-in-None-clause-value : goal.returns-in-None-clause-value
returns-in-None-clause-value c = search (rules, shown_none)
