-- What stands at a place of the text, and in the words of a section's records.
use Rattle.std.specs.Prelude.{ℕ, ◌-◌, List, [], ◌∷◌, map, ◌≡◌, take, drop}
use Rattle.chars.specs.Utf8.{encode}
use Rattle.lexer.specs.Tokens.{Span}
use Rattle.language.specs.Agreement.{groups, at, place_at, characters_at}

-- every member has the property
abbrev pub Every : {A : Type 0} → (A → Type 0) → List A → Type 0
Every p [] = Unit {0}
Every p (a ∷ l) = p a × Every p l

-- the bytes at a place
abbrev pub bytes_at : List ℕ → Span → List ℕ
bytes_at text p = take (p.end - p.start) (drop p.start text)

-- the bytes at a place are UTF-8
abbrev pub Utf8At : List ℕ → Span → Type 0
Utf8At text p = encode (characters_at text p) ≡ bytes_at text p

-- the place that a record of the sheet begins with holds UTF-8
abbrev pub NameIn : List ℕ → List ℕ → Type 0
NameIn text ws = Utf8At text (place_at ws 0)

-- the i-th words of n records of k words
abbrev pub column : ℕ → ℕ → ℕ → List ℕ → List ℕ
column k i n ws = map (λ r. at r i) (groups k n ws)
