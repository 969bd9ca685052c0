-- Laws of a row of tokens as words: the words of a row give the row back, and a store of four words is a store of a token.
use mathlib.Core.Path.{◌≡◌, refl, sym, ap, ◌∙◌}
use mathlib.Core.List.{List, [], ◌∷◌, ◌++◌, append-nil, append_assoc}
use Prim.Native.Nat.{ℕ, zero, suc, ◌+◌, ◌-◌, ◌*◌, ◌≤◌, ◌<◌}
use native.Mathlib.Omega.{arith}
use native.Mathlib.Nat.{le_of_suc-le-suc}
use lib.ListN.{length, take, drop, set, length-append, length-take, length-drop, length-set, take-append-drop}
use lib.Seq.{take_at, drop_at, sets}
use Rattle.lexer.specs.Words.{onto}
use Rattle.tokens.specs.declared.Token.{Token}
use Rattle.parser.specs.Row.{tokens_in}
use Rattle.tokens.proofs.Rows.{length-rows}
use Rattle.assembler.specs.Rows.{rows}
use Rattle.assembler.specs.Entered.{words_of, flat}

pub length-flat : (ts : List Token) → length (flat ts) ≡ 4 * length ts
unfolding flat
length-flat [] = refl
length-flat (t ∷ ts) = omega (arith, length-flat ts)

pub flat_append : (a b : List Token) → flat (a ++ b) ≡ flat a ++ flat b
unfolding flat
flat_append [] b = refl
flat_append (t ∷ a) b = ap (λ (r : List ℕ). words_of t ++ r) (flat_append a b)

pub tokens-flat : (ts : List Token) (r : List ℕ) → tokens_in (flat ts ++ r) ≡ ts ++ tokens_in r
unfolding flat tokens_in
tokens-flat [] r = refl
tokens-flat (t ∷ ts) r = ap (λ (l : List Token). t ∷ l) (tokens-flat ts r)

-- the row of the words of a row
pub rows-onto : (ts : List Token) (n : ℕ) (w : List ℕ) → length ts ≡ n → rows n (onto (flat ts) w) ≡ ts
unfolding onto
rows-onto ts n w e = ap (take n) (tokens-flat ts (drop (length (flat ts)) w)) ∙ take_at ts (tokens_in (drop (length (flat ts)) w)) n e

-- the words of the row that words hold
flat_rows : (n : ℕ) (w : List ℕ) → 4 * n ≤ length w → flat (rows n w) ++ drop (4 * n) w ≡ w
unfolding flat tokens_in
flat_rows zero w h = refl
flat_rows (suc n) [] h = absurd (omega arith)
flat_rows (suc n) (a ∷ []) h = absurd (omega arith)
flat_rows (suc n) (a ∷ b ∷ []) h = absurd (omega arith)
flat_rows (suc n) (a ∷ b ∷ c ∷ []) h = absurd (omega arith)
flat_rows (suc n) (a ∷ b ∷ c ∷ d ∷ w) h =
    let e : 4 * suc n ≡ suc (suc (suc (suc (4 * n)))) = omega arith in
    ap (λ (k : ℕ). (a ∷ b ∷ c ∷ d ∷ flat (rows n w)) ++ drop k (a ∷ b ∷ c ∷ d ∷ w)) e ∙ ap (λ (l : List ℕ). a ∷ b ∷ c ∷ d ∷ l) (flat_rows n w (omega arith))

pub onto-rows : (n : ℕ) (w : List ℕ) → 4 * n ≤ length w → onto (flat (rows n w)) w ≡ w
unfolding onto
onto-rows n w h = ap (λ (k : ℕ). flat (rows n w) ++ drop k w) (length-flat (rows n w) ∙ ap (λ (k : ℕ). 4 * k) (length-rows n w h)) ∙ flat_rows n w h

pub length-onto : (ts : List Token) (w : List ℕ) → 4 * length ts ≤ length w → length (onto (flat ts) w) ≡ length w
unfolding onto
length-onto ts w h = omega (arith, length-append (flat ts) (drop (length (flat ts)) w), length-drop (length (flat ts)) w, length-flat ts)

-- one row over another
pub onto-onto : (a b : List Token) (w : List ℕ) → length a ≡ length b → onto (flat a) (onto (flat b) w) ≡ onto (flat a) w
unfolding onto
onto-onto a b w e =
    let z : length (flat b) ≡ length (flat a) = omega (arith, length-flat a, length-flat b) in
    ap (λ (l : List ℕ). flat a ++ l) (drop_at (flat b) (drop (length (flat b)) w) (length (flat a)) z ∙ ap (λ (k : ℕ). drop k w) z)

-- a store of a token's words
put-flat : (ts : List Token) (r : List ℕ) (i : ℕ) (t : Token) → i < length ts → sets (flat ts ++ r) (4 * i) (words_of t) ≡ flat (set ts i t) ++ r
unfolding flat
put-flat [] r i t h = absurd (omega arith)
put-flat (x ∷ ts) r zero t h = refl
put-flat (x ∷ ts) r (suc i) t h =
    let e : 4 * suc i ≡ suc (suc (suc (suc (4 * i)))) = omega arith in
    ap (λ (k : ℕ). sets (flat (x ∷ ts) ++ r) k (words_of t)) e ∙ ap (λ (l : List ℕ). words_of x ++ l) (put-flat ts r i t (le_of_suc-le-suc h))

pub put-onto : (ts : List Token) (w : List ℕ) (i : ℕ) (t : Token) → i < length ts → sets (onto (flat ts) w) (4 * i) (words_of t) ≡ onto (flat (set ts i t)) w
unfolding onto
put-onto ts w i t h =
    let e : length (flat ts) ≡ length (flat (set ts i t)) = omega (arith, length-flat ts, length-flat (set ts i t), length-set ts i t) in
    put-flat ts (drop (length (flat ts)) w) i t h ∙ ap (λ (k : ℕ). flat (set ts i t) ++ drop k w) e

-- a part of the words from a token on, up to the row's end
pub part-tokens : (n i : ℕ) (w : List ℕ) → 4 * n ≤ length w → i ≤ n → tokens_in (take (4 * n - 4 * i) (drop (4 * i) w)) ≡ drop i (rows n w)
unfolding tokens_in
part-tokens n i w h l =
    let ts : List Token = rows n w in
    let r : List ℕ = drop (4 * n) w in
    let len : length ts ≡ n = length-rows n w h in
    let a : List ℕ = flat (take i ts) in
    let b : List ℕ = flat (drop i ts) in
    let la : length a ≡ 4 * i = omega (arith, length-flat (take i ts), length-take i ts) in
    let lb : length b ≡ 4 * n - 4 * i = omega (arith, length-flat (drop i ts), length-drop i ts) in
    let split : w ≡ a ++ (b ++ r) =
    sym (flat_rows n w h) ∙ ap (λ (l : List ℕ). l ++ r) (ap flat (sym (take-append-drop i ts)) ∙ flat_append (take i ts) (drop i ts)) ∙ append_assoc a b r in
    ap (λ (l : List ℕ). tokens_in (take (4 * n - 4 * i) (drop (4 * i) l))) split
    ∙ ap (λ (l : List ℕ). tokens_in (take (4 * n - 4 * i) l)) (drop_at a (b ++ r) (4 * i) la)
    ∙ ap tokens_in (take_at b r (4 * n - 4 * i) lb ∙ sym (append-nil b))
    ∙ tokens-flat (drop i ts) []
    ∙ append-nil (drop i ts)
