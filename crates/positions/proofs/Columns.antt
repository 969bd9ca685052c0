-- Where a character begins, the position is the one behind the characters before it: the bytes before it are theirs.
use mathlib.Core.Path.{◌≡◌, ap, ◌∙◌}
use Prim.Native.Nat.{ℕ}
use mathlib.Core.List.{List, ◌++◌}
use Rattle.chars.specs.Utf8.{sizes, decode}
use Rattle.chars.proofs.Theorems.{decode-encode, part_bytes, part-scalars}
use Rattle.positions.specs.Positions.{behind, line_column}

pub at_character : (t cs ds : List ℕ) → decode t ≡ cs ++ ds → line_column t (sizes cs) ≡ behind cs
unfolding line_column
at_character t cs ds e = ap (λ l. behind (decode l)) (part_bytes cs ds t 0 e) ∙ ap behind (decode-encode cs (part-scalars cs ds t e))
