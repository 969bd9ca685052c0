-- What a reader must believe of the line that is written: its tapes, how many symbols each read set has, and its bytes.
use Rattle.std.specs.Prelude.{ℕ, zero, suc, ◌+◌, ◌-◌, ◌*◌, ◌/◌, List, [], ◌∷◌, ◌++◌, cond, eqb, ltb, max}

-- how many pairs of bytes there are beyond the fifteen of the shortest line
abbrev pub pairs : ℕ → ℕ
pairs n = (n - 15) / 2

-- on how many tapes h pairs are spent best: from 14, 21, 28 and 37 pairs on, a tape more is better
abbrev pub tapes_for : ℕ → ℕ
tapes_for h = cond (ltb h 14) 1 (cond (ltb h 21) 2 (cond (ltb h 28) 3 (cond (ltb h 37) 4 5)))

-- how many symbols the read sets have together: each takes a pair, and each of several tapes takes three more
abbrev pub members : ℕ → ℕ
members h = cond (eqb (tapes_for h) 1) (max h 1) (h - 3 * tapes_for h)

-- how many symbols the read set of a tape has: as many as those of the others, or one more
abbrev pub set_size : ℕ → ℕ → ℕ
set_size h i = (members h + i) / tapes_for h

-- parts behind one another, a comma between them
unfoldable pub parted : (ℕ → List ℕ) → ℕ → List ℕ
parted part zero = []
parted part (suc zero) = part 0
parted part (suc (suc i)) = parted part (suc i) ++ 0x2C ∷ part (suc i)

-- a list between two signs, or its only part alone
abbrev pub enclosed : ℕ → ℕ → (ℕ → List ℕ) → ℕ → List ℕ
enclosed opening closing part n = cond (eqb n 1) (part 0) (opening ∷ (parted part n ++ closing ∷ []))

-- a read set: letters from a on, `{a,b,c}`
unfoldable pub set_of : ℕ → List ℕ
unfolding parted
set_of s = enclosed 0x7B 0x7D (λ j. (0x61 + j) ∷ []) s

-- what is read: a set for each tape, `({a,b},{a,b})`
unfoldable pub reads_of : ℕ → List ℕ
unfolding parted set_of
reads_of h = enclosed 0x28 0x29 (λ i. set_of (set_size h i)) (tapes_for h)

-- what is written, and the moves: the same for each tape, `(a,a)` and `(R,R)`
unfoldable pub same_of : ℕ → ℕ → List ℕ
unfolding parted
same_of b k = enclosed 0x28 0x29 (λ i. b ∷ []) k

-- the line for h pairs, `δ(a,READ)=(a,WRITE,MOVE)`
unfoldable pub line_for : ℕ → List ℕ
unfolding reads_of same_of
line_for h =
    (0xCE ∷ 0xB4 ∷ 0x28 ∷ 0x61 ∷ 0x2C ∷ [])
    ++ (reads_of h
    ++ ((0x29 ∷ 0x3D ∷ 0x28 ∷ 0x61 ∷ 0x2C ∷ [])
    ++ (same_of 0x61 (tapes_for h) ++ (0x2C ∷ [] ++ (same_of 0x52 (tapes_for h) ++ 0x29 ∷ [])))))

-- the product of the first k sizes
unfoldable pub product_of : ℕ → ℕ → ℕ
product_of h zero = 1
product_of h (suc i) = product_of h i * set_size h i

-- how many rules the line expands to: a rule for each choice of a symbol from each set
unfoldable pub number_for : ℕ → ℕ
unfolding product_of
number_for h = product_of h (tapes_for h)
