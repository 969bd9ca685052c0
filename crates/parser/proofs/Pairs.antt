-- Laws of symbols with a comma behind each: a list of symbols goes on behind them.
use mathlib.Core.Path.{◌≡◌, refl, sym, ap, subst, ◌∙◌}
use mathlib.Core.Bool.{Bool, true, false, cond}
use mathlib.Core.List.{List, [], ◌∷◌}
use Prim.Native.Nat.{ℕ, zero, suc, ◌+◌, ◌-◌, ◌*◌, ◌/◌, ◌≤◌, ◌<◌}
use native.Mathlib.Omega.{arith}
use lib.Dec.{eqb}
use lib.ListN.{length, get_or, take, drop, length-take, length-drop}
use lib.Seq.{get_or-drop, take_all}
use Rattle.std.specs.Prelude.{Option, Some, None, unwrap_or}
use Rattle.std.specs.Bool.{⊤}
use Rattle.std.specs.List.{AllWithin, HoldsAt}
use Rattle.std.specs.Option.{MatchOption}
use Rattle.std.specs.Simd.{first_chunks}
use Rattle.parser.specs.Row.{tokens_in, ended, peek}
use Rattle.parser.specs.Views.{is_symbol, is_pair, Pairs}
use Rattle.parser.specs.Lines.{Done, one, separator, entries}
use Rattle.tokens.specs.declared.Token.{Token}
use Rattle.parser.proofs.Laws.{length-tokens}
use Rattle.parser.proofs.Lists.{symbol_steps, list_again}

-- ---- pairs in blocks of eight words
four-more : (n : ℕ) → 4 * suc n ≡ suc (suc (suc (suc (4 * n))))
four-more n = omega arith

tokens-drop : (n : ℕ) (w : List ℕ) → tokens_in (drop (4 * n) w) ≡ drop n (tokens_in w)
unfolding tokens_in
tokens-drop zero w = let z : 4 * zero ≡ 0 = omega arith in ap (λ (k : ℕ). tokens_in (drop k w)) z
tokens-drop (suc n) [] = ap (λ (k : ℕ). tokens_in (drop k [])) (four-more n)
tokens-drop (suc n) (a ∷ []) = ap (λ (k : ℕ). tokens_in (drop k (a ∷ []))) (four-more n)
tokens-drop (suc n) (a ∷ b ∷ []) = ap (λ (k : ℕ). tokens_in (drop k (a ∷ b ∷ []))) (four-more n)
tokens-drop (suc n) (a ∷ b ∷ c ∷ []) = ap (λ (k : ℕ). tokens_in (drop k (a ∷ b ∷ c ∷ []))) (four-more n)
tokens-drop (suc n) (a ∷ b ∷ c ∷ d ∷ r) = ap (λ (k : ℕ). tokens_in (drop k (a ∷ b ∷ c ∷ d ∷ r))) (four-more n) ∙ tokens-drop n r

pair-drop : (n : ℕ) (w : List ℕ) (i : ℕ) → is_pair (tokens_in (drop (4 * n) w)) i ≡ is_pair (tokens_in w) (n + i)
unfolding is_pair
pair-drop n w i =
    let ts : List Token = tokens_in w in
    let z : n + (i + 1) ≡ n + i + 1 = omega arith in
    ap (λ (l : List Token). is_pair l i) (tokens-drop n w)
    ∙ ap (λ (t : Token). cond (is_symbol t) (eqb (peek (drop n ts) (i + 1)).kind 8) false) (get_or-drop n ts i ended)
    ∙ ap (λ (t : Token). cond (is_symbol (peek ts (n + i))) (eqb t.kind 8) false) (get_or-drop n ts (i + 1) ended ∙ ap (peek ts) z)

pair-eight : (w : List ℕ) → 8 ≤ length w → is_pair (tokens_in (take 8 w)) 0 ≡ is_pair (tokens_in w) 0
unfolding tokens_in is_pair
pair-eight [] h = absurd (omega arith)
pair-eight (a ∷ []) h = absurd (omega arith)
pair-eight (a ∷ b ∷ []) h = absurd (omega arith)
pair-eight (a ∷ b ∷ c ∷ []) h = absurd (omega arith)
pair-eight (a ∷ b ∷ c ∷ d ∷ []) h = absurd (omega arith)
pair-eight (a ∷ b ∷ c ∷ d ∷ e ∷ []) h = absurd (omega arith)
pair-eight (a ∷ b ∷ c ∷ d ∷ e ∷ f ∷ []) h = absurd (omega arith)
pair-eight (a ∷ b ∷ c ∷ d ∷ e ∷ f ∷ g ∷ []) h = absurd (omega arith)
pair-eight (a ∷ b ∷ c ∷ d ∷ e ∷ f ∷ g ∷ x ∷ r) h = refl

-- what a block says of its two tokens holds of them in the row
block-pair : (k j : ℕ) (w d : List ℕ) → j < k → 8 * k ≤ length w → is_pair (tokens_in (get_or (first_chunks 8 k w) j d)) 0 ≡ is_pair (tokens_in w) (2 * j)
block-pair zero j w d h l = absurd (omega arith)
block-pair (suc k) zero w d h l = let z : 0 ≡ 2 * zero = omega arith in pair-eight w (omega arith) ∙ ap (is_pair (tokens_in w)) z
block-pair (suc k) (suc j) w d h l =
    let z : 2 + 2 * j ≡ 2 * suc j = omega arith in
    block-pair k j (drop 8 w) d (omega arith) (omega (arith, length-drop 8 w)) ∙ pair-drop 2 w (2 * j) ∙ ap (is_pair (tokens_in w)) z

module _ (w : List ℕ) (at : ℕ) (h : at ≤ length w / 4) (blocks : List (List ℕ)) (e : blocks ≡ first_chunks 8 (length (take (length w - 4 * at) (drop (4 * at) w)) / 8) (take (length w - 4 * at) (drop (4 * at) w)))
    (long : length blocks ≡ length (take (length w - 4 * at) (drop (4 * at) w)) / 8) where
  pairs-front : (n : ℕ) → n ≤ length blocks → AllWithin (λ b. is_pair (tokens_in b) 0 ≡ true) blocks 0 n → Pairs (tokens_in w) at n
  pairs-front n g f =
      let xs : List ℕ = take (length w - 4 * at) (drop (4 * at) w) in
      let size : length xs ≡ length w - 4 * at = omega (arith, length-take (length w - 4 * at) (drop (4 * at) w), length-drop (4 * at) w) in
      let whole : xs ≡ drop (4 * at) w = take_all (length w - 4 * at) (drop (4 * at) w) (omega (arith, length-drop (4 * at) w)) in
      let all : AllWithin (λ b. is_pair (tokens_in b) 0 ≡ true) (first_chunks 8 (length xs / 8) xs) 0 n = subst (λ (bs : List (List ℕ)). AllWithin (λ b. is_pair (tokens_in b) 0 ≡ true) bs 0 n) e f in
      record {
        inside = omega (arith, length-tokens w);
        pairs = λ j l. sym (ap (λ (ys : List ℕ). is_pair (tokens_in ys) (2 * j)) whole ∙ pair-drop at w (2 * j)) ∙ sym (block-pair (length xs / 8) j xs [] (omega arith) (omega arith)) ∙ all j [] (omega arith) l;
      }

  pub pairs-blocks : (r : Option ℕ) → MatchOption r (AllWithin (λ b. is_pair (tokens_in b) 0 ≡ true) blocks 0 (length blocks)) (λ n. (n < length blocks) × HoldsAt (λ _. ⊤) blocks n × AllWithin (λ b. is_pair (tokens_in b) 0 ≡ true) blocks 0 n)
      → Pairs (tokens_in w) at (unwrap_or r (length blocks))
  pairs-blocks None f = pairs-front (length blocks) (omega arith) f
  pairs-blocks (Some n) o = pairs-front n (omega (arith, o.0)) o.2

-- ---- a list of symbols goes on behind them
module _ (w : List ℕ) where
  abbrev ts : List Token
  ts = tokens_in w

  pair_parts : (i : ℕ) → is_pair ts i ≡ true → (is_symbol (peek ts i) ≡ true) × (eqb (peek ts (i + 1)).kind 8 ≡ true)
  unfolding is_pair
  pair_parts i e = go (is_symbol (peek ts i)) refl
    where
      go : (b : Bool) → is_symbol (peek ts i) ≡ b → (is_symbol (peek ts i) ≡ true) × (eqb (peek ts (i + 1)).kind 8 ≡ true)
      go true q = (q, rw q at e)
      go false q = let z : false ≡ true = rw q at e in let o : ◌≡◌ {A = ℕ} 0 1 = cc in absurd (omega arith)

  entries-pair : (i n : ℕ) → is_pair ts i ≡ true → entries (one is_symbol) 7 ts (i + 2) (n + 1) ≡ entries (one is_symbol) 7 ts i n
  unfolding one separator
  entries-pair i n e =
      let p = pair_parts i e in
      let d : one is_symbol ts i ≡ Done (i + 1) 1 = rw p.0 in
      let g : separator 7 ts (i + 1) ≡ Done (i + 1 + 1) 1 = rw p.1 in
      let z : i + 2 ≡ i + 1 + 1 = omega arith in
      ap (λ (k : ℕ). entries (one is_symbol) 7 ts k (n + 1)) z
      ∙ list_again (one is_symbol) 7 w i n (entries (one is_symbol) 7 ts i n) refl symbol_steps (omega arith) (one is_symbol ts i) refl (i + 1) 1 d (separator 7 ts (i + 1)) refl (i + 1 + 1) 1 g (λ q. omega arith)

  first-pairs : (at m : ℕ) → ((j : ℕ) → j < m → is_pair ts (at + 2 * j) ≡ true) → entries (one is_symbol) 7 ts (at + 2 * m) m ≡ entries (one is_symbol) 7 ts at 0
  first-pairs at zero h = let z : at + 2 * 0 ≡ at = omega arith in ap (λ (k : ℕ). entries (one is_symbol) 7 ts k 0) z
  first-pairs at (suc m) h =
      let z : at + 2 * suc m ≡ at + 2 * m + 2 = omega arith in
      let y : suc m ≡ m + 1 = omega arith in
      ap (λ (k : ℕ). entries (one is_symbol) 7 ts k (suc m)) z ∙ ap (entries (one is_symbol) 7 ts (at + 2 * m + 2)) y
      ∙ entries-pair (at + 2 * m) m (h m (omega arith)) ∙ first-pairs at m (λ j l. h j (omega arith))

  pub pairs-entries : (at m : ℕ) → Pairs ts at m → entries (one is_symbol) 7 ts (at + 2 * m) m ≡ entries (one is_symbol) 7 ts at 0
  pairs-entries at m p = first-pairs at m p.pairs
