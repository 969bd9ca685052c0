-- Samples, computed from the definitions: lines, what is left behind them, what is refused, and the words of an answer.
use Rattle.std.proofs.Common.{ℕ, ◌≡◌, refl, List, [], ◌∷◌, ◌++◌, map, replicate, Result, Ok, Err}
use Rattle.longest.specs.declared.BestLine.{BestLine}
use Rattle.longest.specs.declared.LongestRefusal.{LongestRefusal}
use Rattle.longest.specs.declared.LongestRefusal.TheVariants.{OutOfRange}
use Rattle.longest.specs.Line.{pairs, set_of, reads_of, same_of, parted, line_for, product_of, number_for}
use Rattle.longest.specs.Call.{longest, answer_words, given}

abbrev line : ℕ → ℕ → Result BestLine LongestRefusal
line length rules = Ok (record { length = length; rules = rules })

-- `δ(a,a)=(a,a,R)`
abbrev shortest : List ℕ
shortest =
    0xCE ∷ 0xB4 ∷ 0x28 ∷ 0x61 ∷ 0x2C ∷ 0x61 ∷ 0x29 ∷ 0x3D ∷ 0x28 ∷ 0x61 ∷ 0x2C ∷ 0x61 ∷ 0x2C ∷ 0x52 ∷ 0x29 ∷ []

-- `δ(a,{a,b})=(a,a,R)`
abbrev of_two : List ℕ
of_two =
    0xCE ∷ 0xB4 ∷ 0x28 ∷ 0x61 ∷ 0x2C ∷ 0x7B ∷ 0x61 ∷ 0x2C ∷ 0x62 ∷ 0x7D ∷ 0x29 ∷ 0x3D ∷ 0x28 ∷ 0x61 ∷ 0x2C ∷ 0x61 ∷ 0x2C ∷ 0x52 ∷ 0x29 ∷ []

-- the output behind the line is as it was, also where the line is shorter than n
lines : map (λ n. longest n (replicate 20 7)) (15 ∷ 18 ∷ 19 ∷ 20 ∷ [])
    ≡ (line 15 1, shortest ++ replicate 5 7) ∷ (line 15 1, shortest ++ replicate 5 7) ∷ (line 19 2, of_two ++ 7 ∷ []) ∷ (line 19 2, of_two ++ 7 ∷ []) ∷ []
unfolding longest line_for reads_of set_of same_of parted number_for product_of
lines = refl

-- the lengths at which a tape more is better, and those before them
numbers : map (λ n. number_for (pairs n)) (15 ∷ 18 ∷ 19 ∷ 42 ∷ 43 ∷ 56 ∷ 57 ∷ 70 ∷ 71 ∷ 88 ∷ 89 ∷ 96 ∷ [])
    ≡ 1 ∷ 1 ∷ 2 ∷ 13 ∷ 16 ∷ 49 ∷ 64 ∷ 216 ∷ 256 ∷ 1296 ∷ 1600 ∷ 3125 ∷ []
unfolding number_for product_of
numbers = refl

-- other lengths, and an output that is too short
refused : map (λ n. longest n (replicate 100 7)) (0 ∷ 14 ∷ 97 ∷ 271 ∷ 18446744073709551615 ∷ []) ≡ replicate 5 (Err OutOfRange, replicate 100 7)
unfolding longest
refused = refl

no_room : longest 15 (replicate 14 7) ≡ (Err OutOfRange, replicate 14 7)
unfolding longest
no_room = refl

-- the answer in words, the low word of the number first; a row of three words is left as it is
words : answer_words (line 96 4294967298) ≡ 0 ∷ 96 ∷ 2 ∷ 1 ∷ []
words = refl

rows : map (given (line 15 1, shortest)) (replicate 5 9 ∷ replicate 3 9 ∷ [])
    ≡ (0, shortest, 0 ∷ 15 ∷ 1 ∷ 0 ∷ 9 ∷ []) ∷ (0, shortest, replicate 3 9) ∷ []
unfolding given
rows = refl

refused_row : given (Err OutOfRange, []) (replicate 4 9) ≡ (22, [], 22 ∷ 0 ∷ 0 ∷ 0 ∷ [])
unfolding given
refused_row = refl
