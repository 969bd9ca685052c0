-- Describes the code: the tables in which it looks a word up among the keywords, by their bytes.
use Rattle.std.specs.Prelude.{ℕ, suc, cond, List, [], ◌∷◌, map, eqb, length}
use Rattle.chars.specs.Utf8.{encode}
use Rattle.lexer.specs.Text.{same}
use Rattle.lexer.specs.Words.{keywords}

-- the keywords as bytes
unfoldable pub keyword_bytes : List (List ℕ)
unfolding encode
keyword_bytes = map encode keywords

-- the members of m bytes, each with its number, counted from n
unfoldable pub numbered : ℕ → ℕ → List (List ℕ) → List (ℕ × List ℕ)
numbered m n [] = []
numbered m n (k ∷ ks) = cond (eqb (length k) m) ((n, k) ∷ numbered m (suc n) ks) (numbered m (suc n) ks)

-- the keywords of m bytes with their numbers
unfoldable pub keywords_of : ℕ → List (ℕ × List ℕ)
unfolding numbered keyword_bytes
keywords_of m = numbered m 1 keyword_bytes

-- the number of the first row of a table whose name equals w; 0 if none does
unfoldable pub number_in : List (ℕ × List ℕ) → List ℕ → ℕ
number_in [] w = 0
number_in (k ∷ ks) w = cond (same k.1 w) k.0 (number_in ks w)
