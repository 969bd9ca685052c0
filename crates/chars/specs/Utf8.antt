-- UTF-8 (RFC 3629), over lists of bytes and lists of code points.
use Rattle.std.specs.Prelude.{ℕ, zero, suc, ◌+◌, ◌-◌, ◌*◌, ◌/◌, ◌%◌, List, [], ◌∷◌, ◌++◌, Bool, cond, ◌&&◌, ◌||◌, get_or, ltb, leb, eqb}

-- a Unicode scalar value: a code point, at most 10FFFF, that is no surrogate
unfoldable pub scalar : ℕ → Bool
scalar c = ltb c 0xD800 || (leb 0xE000 c && ltb c 0x110000)

-- how many bytes a code point takes
unfoldable pub size : ℕ → ℕ
size c = cond (ltb c 0x80) 1 (cond (ltb c 0x800) 2 (cond (ltb c 0x10000) 3 4))

-- how many bytes a list of them takes
unfoldable pub sizes : List ℕ → ℕ
unfolding size
sizes [] = 0
sizes (c ∷ cs) = size c + sizes cs

-- the bytes of a code point
unfoldable pub encode_one : ℕ → List ℕ
encode_one c =
    cond (ltb c 0x80) (c ∷ [])
    (cond (ltb c 0x800) ((0xC0 + c / 64) ∷ (0x80 + c % 64) ∷ [])
    (cond (ltb c 0x10000) ((0xE0 + c / 64 / 64) ∷ (0x80 + c / 64 % 64) ∷ (0x80 + c % 64) ∷ [])
    ((0xF0 + c / 64 / 64 / 64) ∷ (0x80 + c / 64 / 64 % 64) ∷ (0x80 + c / 64 % 64) ∷ (0x80 + c % 64) ∷ [])))

-- the bytes of a list of code points
unfoldable pub encode : List ℕ → List ℕ
unfolding encode_one
encode [] = []
encode (c ∷ cs) = encode_one c ++ encode cs

-- what a list of bytes begins with: a character, by its code point; no character; nothing
pub data Front : Type 0 where
  one : ℕ → Front
  bad : Front
  none : Front

-- the six bits of a continuation byte, 80 to BF; 64 for any other byte
unfoldable pub tail_of : ℕ → ℕ
tail_of b = cond (ltb b 0x80) 64 (cond (ltb b 0xC0) (b - 0x80) 64)

-- a form of n bytes with the value c is a character where c is a scalar value of that size: an overlong form, a surrogate, a
-- value above 10FFFF is none
unfoldable pub form : ℕ → ℕ → Front
unfolding scalar size
form n c = cond (scalar c && eqb (size c) n) (one c) bad

-- what a first byte makes with the bits of the next three
unfoldable pub lead : ℕ → ℕ → ℕ → ℕ → Front
unfolding form
lead a b c d =
    cond (ltb a 0x80) (one a)
    (cond (ltb a 0xC0) bad
    (cond (leb 64 b) bad
    (cond (ltb a 0xE0) (form 2 ((a - 0xC0) * 64 + b))
    (cond (leb 64 c) bad
    (cond (ltb a 0xF0) (form 3 ((a - 0xE0) * 4096 + b * 64 + c))
    (cond (leb 64 d) bad (form 4 ((a - 0xF0) * 262144 + b * 4096 + c * 64 + d))))))))

-- what a list of bytes begins with; a byte past its end counts as 0, which is no continuation byte
unfoldable pub front : List ℕ → Front
unfolding lead tail_of
front [] = none
front (a ∷ r) = lead a (tail_of (get_or r 0 0)) (tail_of (get_or r 1 0)) (tail_of (get_or r 2 0))

-- the code point of a front before those of the rest; `next k` are those behind the k bytes that follow the first
unfoldable pub points_on : Front → (ℕ → List ℕ) → List ℕ
unfolding size
points_on (one c) next = c ∷ next (size c - 1)
points_on _ next = []

-- the code points of the longest UTF-8 beginning, the first k bytes passed over
unfoldable pub points_from : ℕ → List ℕ → List ℕ
unfolding front points_on
points_from k [] = []
points_from (suc k) (b ∷ r) = points_from k r
points_from zero (b ∷ r) = points_on (front (b ∷ r)) (λ (k : ℕ). points_from k r)

-- the code points of a text's longest UTF-8 beginning
unfoldable pub decode : List ℕ → List ℕ
unfolding points_from
decode t = points_from 0 t

-- the length in bytes of a text's longest UTF-8 beginning (paper 01: refusal 3's place)
unfoldable pub valid_up_to : List ℕ → ℕ
unfolding decode sizes
valid_up_to t = sizes (decode t)
