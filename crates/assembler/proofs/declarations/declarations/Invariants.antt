use Prim.Native.Nat.{◌-◌}
use Rattle.tokens.specs.Listed.{tokens_of}
use Rattle.assembler.specs.Entries.{entries}
use Rattle.assembler.specs.Declarations.{declarations, declaration_errors}
use Rattle.assembler.proofs.DeclarationLaws.{Declaring}
use Rattle.assembler.proofs.declarations.declarations.Given as goal

abbrev pub invariant-loop-at : goal.invariant-loop-at
invariant-loop-at l =
    Declaring l.tokens.count l.tokens.words.now (declarations l.tokens.count l.fn.first (entries (tokens_of l.tokens)))
    (declaration_errors (tokens_of l.tokens) l.fn.first (entries (tokens_of l.tokens))) l.fn.log l.first l.log l.at

abbrev pub decreases-loop-at : goal.decreases-loop-at
decreases-loop-at l = l.tokens.count - l.at
