-- Line and column of an offset, both from 1, as an editor shows them: the column counts characters.
use Rattle.std.specs.Prelude.{ℕ, ◌+◌, List, eqb, not, length, take, reverse, take_while, count_by}
use Rattle.chars.specs.Utf8.{decode}
use Rattle.positions.specs.declared.Position.{Position}

-- the position behind characters: a line more for each line feed, and a column more for each character behind the last of them
unfoldable pub behind : List ℕ → Position
behind cs = record {
  line = count_by (λ c. eqb c 10) cs + 1;
  column = length (take_while (λ c. not (eqb c 10)) (reverse cs)) + 1;
}

-- the position of an offset: behind the characters that end before it; where a text is no UTF-8, behind those as far as it is
unfoldable pub line_column : List ℕ → ℕ → Position
unfolding behind decode
line_column text o = behind (decode (take o text))
