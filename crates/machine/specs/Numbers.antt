-- Paper 01, "The records": numbers that stand for parts of a head.
use Rattle.std.specs.Prelude.{ℕ}
use Rattle.machine.specs.declared.Kind.{Kind}
use Rattle.machine.specs.declared.Kind.TheVariants.{Acceptor, Transducer, Enumerator, Beaver}

-- the number of a kind
abbrev pub kind_number : Kind → ℕ
kind_number Acceptor = 0
kind_number Transducer = 1
kind_number Enumerator = 2
kind_number Beaver = 3
