-- The codes of an undeclared Γ, each once, fit in the two scratch rows of a text: there are no more than the row's symbols and
-- the input's characters.
use mathlib.Core.Path.{◌≡◌, refl, sym, ap, ◌∙◌}
use mathlib.Core.Bool.{Bool, true, false, cond, ◌||◌, false≢true}
use mathlib.Core.List.{List, [], ◌∷◌, ◌++◌}
use Prim.Native.Nat.{ℕ, zero, suc, ◌+◌, ◌-◌, ◌*◌, ◌≤◌}
use native.Mathlib.Omega.{arith}
use borrow.Author.Tests.{eq-eqb, eqb-true}
use lib.Dec.{eqb, ltb}
use lib.ListN.{length, get_or, take, drop, length-append, length-map, length-drop}
use Rattle.diag.proofs.Cases.{by_test_lem}
use Rattle.chars.specs.Utf8.{decode, sizes, valid_up_to}
use Rattle.chars.proofs.Theorems.{valid_le}
use Rattle.chars.proofs.Encoding.{size-range}
use Rattle.lexer.specs.Places.{rest}
use Rattle.tokens.specs.declared.Token.{Token}
use Rattle.parser.specs.Row.{peek}
use Rattle.parser.specs.Views.{is_symbol}
use Rattle.language.specs.Infer.{member}
use Rattle.language.proofs.Every.{Every, or_left, or_right, or_else}
use Rattle.assembler.specs.Entries.{Entry, entries}
use Rattle.sheet.specs.Rules.{resolve}
use Rattle.infer_symbols.specs.declared.glyphs.Walk.{Walk}
use Rattle.infer_symbols.specs.declared.glyphs.Walk.TheVariants.{Outside, Open, Behind}
use Rattle.infer_symbols.specs.Codes.{noted, noted_all}
use Rattle.infer_symbols.specs.Symbols.{range, symbols, line_range, symbols_in, takes, walked, firsts, outside, others, further, rule_symbols, rules_symbols, codes_of}
use Rattle.infer_symbols.specs.Input.{ends_at, escape_code, escape_of, spelled_as, escapes_next, spelled, input_of}
use Rattle.infer_symbols.proofs.CodesMean.{noted_there, noted_new}
use Rattle.infer_symbols.specs.Alphabets.{line_codes, candidates, gamma_codes}

-- ---- codes from a list, each once, are no more than the list is long
-- a list without one entry x
unfoldable without : ℕ → List ℕ → List ℕ
without x [] = []
without x (y ∷ l) = elim (eqb y x) [ true ↦ l | false ↦ y ∷ without x l ]

without_length : (x : ℕ) (l : List ℕ) → member eqb l x ≡ true → length l ≡ suc (length (without x l))
unfolding without member
without_length x [] e = absurd (false≢true e)
without_length x (y ∷ l) e = by_test_lem (eqb y x) (λ q. rw (q, without)) (λ q. rw (q, without) (ap suc (without_length x l (or_else (eqb y x) (member eqb l x) e q))))

-- each other entry stays
without_member : (x y : ℕ) (l : List ℕ) → member eqb l y ≡ true → eqb x y ≡ false → member eqb (without x l) y ≡ true
unfolding without member
without_member x y [] e n = absurd (false≢true e)
without_member x y (z ∷ l) e n = by_test_lem (eqb z x)
    (λ q. rw (q, without) (or_else (eqb z y) (member eqb l y) e (ap (λ (k : ℕ). eqb k y) (eqb-true z x q) ∙ n)))
    (λ q. rw (q, without) (by_test_lem (eqb z y) (λ p. or_left (eqb z y) (member eqb (without x l) y) p) (λ p. or_right (eqb z y) (member eqb (without x l) y) (without_member x y l (or_else (eqb z y) (member eqb l y) e p) n))))

member_last : (cs : List ℕ) (x y : ℕ) → (member eqb cs y || eqb x y) ≡ true → member eqb (cs ++ x ∷ []) y ≡ true
unfolding member
member_last [] x y e = or_left (eqb x y) false e
member_last (c ∷ cs) x y e = by_test_lem (eqb c y) (λ q. or_left (eqb c y) (member eqb (cs ++ x ∷ []) y) q) (λ q. or_right (eqb c y) (member eqb (cs ++ x ∷ []) y) (member_last cs x y (ap (λ (b : Bool). (b || member eqb cs y) || eqb x y) (sym q) ∙ e)))

abbrev In : List ℕ → List ℕ → ℕ → Type 0
In cs u y = (member eqb cs y || member eqb u y) ≡ true

pub few_noted : (cs u xs : List ℕ) → Every (In cs u) xs → length (noted_all cs xs) ≤ length cs + length u
unfolding noted_all
few_noted cs u [] h = omega arith
few_noted cs u (x ∷ xs) h = by_test_lem (member eqb cs x)
    (λ y. let e : noted_all (noted cs x) xs ≡ noted_all cs xs = ap (λ (l : List ℕ). noted_all l xs) (noted_there cs x y) in omega (arith, ap length e, few_noted cs u xs h.1))
    (λ n.
    let e : noted_all (noted cs x) xs ≡ noted_all (cs ++ x ∷ []) xs = ap (λ (l : List ℕ). noted_all l xs) (noted_new cs x n) in
    let there : member eqb u x ≡ true = or_else (member eqb cs x) (member eqb u x) h.0 n in
    omega (arith, ap length e, few_noted (cs ++ x ∷ []) (without x u) xs (still xs h.1), without_length x u there, length-append cs (x ∷ [])))
  where
    one : (y : ℕ) → In cs u y → In (cs ++ x ∷ []) (without x u) y
    one y e = by_test_lem (eqb x y)
        (λ q. or_left (member eqb (cs ++ x ∷ []) y) (member eqb (without x u) y) (member_last cs x y (or_right (member eqb cs y) (eqb x y) q)))
        (λ q. by_test_lem (member eqb cs y)
        (λ p. or_left (member eqb (cs ++ x ∷ []) y) (member eqb (without x u) y) (member_last cs x y (or_left (member eqb cs y) (eqb x y) p)))
        (λ p. or_right (member eqb (cs ++ x ∷ []) y) (member eqb (without x u) y) (without_member x y u (or_else (member eqb cs y) (member eqb u y) e p) q)))

    still : (l : List ℕ) → Every (In cs u) l → Every (In (cs ++ x ∷ []) (without x u)) l
    still [] k = tt
    still (y ∷ l) k = (one y k.0, still l k.1)

-- ---- what is noted of a row are its symbols
module _ (b : ℕ) (u : List ℕ) where
  abbrev Of : Token → Type 0
  Of t = In (b ∷ []) u (resolve b t)

  -- a token that is in u if it is a symbol
  abbrev Held : Token → Type 0
  Held t = is_symbol t ≡ true → Of t

  every_take : (n : ℕ) (ts : List Token) → Every Held ts → Every Held (take n ts)
  every_take zero ts h = tt
  every_take (suc n) [] h = tt
  every_take (suc n) (t ∷ ts) h = (h.0, every_take n ts h.1)

  every_drop : (n : ℕ) (ts : List Token) → Every Held ts → Every Held (drop n ts)
  every_drop zero ts h = h
  every_drop (suc n) [] h = tt
  every_drop (suc n) (t ∷ ts) h = every_drop n ts h.1

  range-held : (ts : List Token) (i j : ℕ) → Every Held ts → Every Held (range ts i j)
  range-held ts i j h = every_take (j - i) (drop i ts) (every_drop i ts h)

  every_both : (l m : List Token) → Every Of l → Every Of m → Every Of (l ++ m)
  every_both [] m h k = k
  every_both (t ∷ l) m h k = (h.0, every_both l m h.1 k)

  only : (x : Bool) (t : Token) → (x ≡ true → Of t) → Every Of (cond x (t ∷ []) [])
  only true t h = (h refl, tt)
  only false t h = tt

  symbols-held : (ts : List Token) → Every Held ts → Every Of (symbols ts)
  unfolding symbols
  symbols-held [] h = tt
  symbols-held (t ∷ ts) h = every_both (cond (is_symbol t) (t ∷ []) []) (symbols ts) (only (is_symbol t) t h.0) (symbols-held ts h.1)

  takes-symbol : (s : Walk) (t : Token) → takes s t ≡ true → is_symbol t ≡ true
  unfolding takes
  takes-symbol Outside t e = e
  takes-symbol Open t e = e
  takes-symbol Behind t e = absurd (false≢true e)

  firsts-held : (s : Walk) (ts : List Token) → Every Held ts → Every Of (firsts s ts)
  unfolding firsts
  firsts-held s [] h = tt
  firsts-held s (t ∷ ts) h = every_both (cond (takes s t) (t ∷ []) []) (firsts (walked s t) ts) (only (takes s t) t (λ e. h.0 (takes-symbol s t e))) (firsts-held (walked s t) ts h.1)

  others-held : (seen : Bool) (ts : List Token) → Every Held ts → Every Of (others seen ts)
  unfolding others
  others-held seen [] h = tt
  others-held seen (t ∷ ts) h = go (eqb t.kind 7) seen (others-held (cond seen true (is_symbol t)) ts h.1)
    where
      go : (x y : Bool) → Every Of (others (cond seen true (is_symbol t)) ts) → Every Of (elim x [ true ↦ [] | false ↦ cond y (symbols (t ∷ [])) [] ++ others (cond seen true (is_symbol t)) ts ])
      go true y k = tt
      go false true k = every_both (symbols (t ∷ [])) (others (cond seen true (is_symbol t)) ts) (symbols-held (t ∷ []) (h.0, tt)) k
      go false false k = k

  further-held : (ts : List Token) → Every Held ts → Every Of (further ts)
  unfolding further
  further-held [] h = tt
  further-held (t ∷ ts) h = every_both (further ts) (cond (eqb t.kind 6) (others false ts) []) (further-held ts h.1) (go (eqb t.kind 6))
    where
      go : (x : Bool) → Every Of (cond x (others false ts) [])
      go true = others-held false ts h.1
      go false = tt

  rule-held : (ts : List Token) (e : Entry) → Every Held ts → Every Of (rule_symbols ts e)
  unfolding rule_symbols
  rule-held ts e h = go (eqb e.first.kind 27)
    where
      q : Token
      q = peek ts (e.at + 3)

      reads : List Token
      reads = range ts (e.at + 4) q.start

      go : (x : Bool) → Every Of (cond x (firsts outside reads ++ (symbols (range ts q.end q.value) ++ further reads)) [])
      go true = every_both (firsts outside reads) (symbols (range ts q.end q.value) ++ further reads) (firsts-held outside reads (range-held ts (e.at + 4) q.start h))
          (every_both (symbols (range ts q.end q.value)) (further reads) (symbols-held (range ts q.end q.value) (range-held ts q.end q.value h)) (further-held reads (range-held ts (e.at + 4) q.start h)))
      go false = tt

  rules-held : (ts : List Token) (es : List Entry) → Every Held ts → Every Of (rules_symbols ts es)
  unfolding rules_symbols
  rules-held ts [] h = tt
  rules-held ts (e ∷ es) h = every_both (rule_symbols ts e) (rules_symbols ts es) (rule-held ts e h) (rules-held ts es h)

  codes-held : (ts : List Token) → Every Of ts → Every (In (b ∷ []) u) (codes_of b ts)
  codes-held [] h = tt
  codes-held (t ∷ ts) h = (h.0, codes-held ts h.1)

-- ---- how long they are
symbols_few : (ts : List Token) → length (symbols ts) ≤ length ts
unfolding symbols
symbols_few [] = omega arith
symbols_few (t ∷ ts) = go (is_symbol t) (symbols_few ts)
  where
    go : (x : Bool) → length (symbols ts) ≤ length ts → length (cond x (t ∷ []) [] ++ symbols ts) ≤ suc (length ts)
    go true h = omega arith
    go false h = omega arith

chars_few : (cs : List ℕ) → length cs ≤ sizes cs
unfolding sizes
chars_few [] = omega arith
chars_few (c ∷ cs) = omega (arith, (size-range c).0, chars_few cs)

decode_few : (t : List ℕ) → length (decode t) ≤ length t
unfolding valid_up_to
decode_few t = omega (arith, chars_few (decode t), valid_le t)

escape_few : (c : ℕ) → length (escape_of c) ≤ 2
unfolding escape_of
escape_few c = go (eqb (escape_code c) 0)
  where
    go : (x : Bool) → length (cond x (0x5C ∷ c ∷ []) (escape_code c ∷ [])) ≤ 2
    go true = omega arith
    go false = omega arith

-- a character adds itself at most, an escape one more for its backslash
abbrev waits : Bool → ℕ
waits true = 1
waits false = 0

adds_few : (e : Bool) (c : ℕ) → length (spelled_as e c) + waits (escapes_next e c) ≤ 1 + waits e
unfolding spelled_as escapes_next
adds_few true c = omega (arith, escape_few c)
adds_few false c = go (eqb c 0x5C)
  where
    go : (x : Bool) → length (cond x [] (c ∷ [])) + waits x ≤ 1 + 0
    go true = omega arith
    go false = omega arith

spelled_few : (e : Bool) (cs : List ℕ) → length (spelled e cs) ≤ length cs + waits e
unfolding spelled
spelled_few e [] = omega arith
spelled_few e (c ∷ r) = go (ends_at e c) (spelled_few (escapes_next e c) r)
  where
    go : (x : Bool) → length (spelled (escapes_next e c) r) ≤ length r + waits (escapes_next e c) → length {A = ℕ} (elim x [ true ↦ [] | false ↦ spelled_as e c ++ spelled (escapes_next e c) r ]) ≤ suc (length r) + waits e
    go true h = omega arith
    go false h = omega (arith, length-append (spelled_as e c) (spelled (escapes_next e c) r), adds_few e c)

input_few : (text : List ℕ) (ts : List Token) (d : ℕ) → length (input_of text ts d) ≤ length text
unfolding input_of
input_few text ts d = go (ltb d (length ts))
  where
    at : ℕ
    at = (peek ts (d + 1)).start + (peek ts (d + 1)).value

    go : (x : Bool) → length (cond x (spelled false (rest text at)) []) ≤ length text
    go true = omega (arith, spelled_few false (rest text at), decode_few (drop at text), length-drop at text)
    go false = omega arith

-- ---- all codes
module _ (text : List ℕ) (b : ℕ) (ts : List Token) (first : List ℕ) where
  abbrev input : List ℕ
  input = input_of text ts (get_or first 2 0)

  abbrev these : List ℕ
  these = codes_of b (symbols ts) ++ input

  member-front : (l m : List ℕ) (y : ℕ) → member eqb l y ≡ true → member eqb (l ++ m) y ≡ true
  unfolding member
  member-front [] m y e = absurd (false≢true e)
  member-front (x ∷ l) m y e = by_test_lem (eqb x y) (λ q. or_left (eqb x y) (member eqb (l ++ m) y) q) (λ q. or_right (eqb x y) (member eqb (l ++ m) y) (member-front l m y (or_else (eqb x y) (member eqb l y) e q)))

  member_back : (l m : List ℕ) (y : ℕ) → member eqb m y ≡ true → member eqb (l ++ m) y ≡ true
  unfolding member
  member_back [] m y e = e
  member_back (x ∷ l) m y e = or_right (eqb x y) (member eqb (l ++ m) y) (member_back l m y e)

  -- each of a list is in it
  each : (u : List ℕ) (l : List ℕ) → ((y : ℕ) → member eqb l y ≡ true → member eqb u y ≡ true) → Every (In (b ∷ []) u) l
  unfolding member
  each u [] h = tt
  each u (x ∷ l) h = (or_right (member eqb (b ∷ []) x) (member eqb u x) (h x (or_left (eqb x x) (member eqb l x) (eq-eqb x x refl))), each u l (λ y e. h y (or_right (eqb x y) (member eqb l y) e)))

  symbols_in_lem : (us : List Token) (u : List ℕ) → ((y : ℕ) → member eqb (codes_of b (symbols us)) y ≡ true → member eqb u y ≡ true) → Every (Held b u) us
  unfolding symbols member
  symbols_in_lem [] u h = tt
  symbols_in_lem (t ∷ us) u h = (one, symbols_in_lem us u (rest_of (is_symbol t) refl))
    where
      one : is_symbol t ≡ true → In (b ∷ []) u (resolve b t)
      one e = or_right (member eqb (b ∷ []) (resolve b t)) (member eqb u (resolve b t)) (h (resolve b t) (rw e (or_left (eqb (resolve b t) (resolve b t)) (member eqb (codes_of b (symbols us)) (resolve b t)) (eq-eqb (resolve b t) (resolve b t) refl))))

      rest_of : (x : Bool) → is_symbol t ≡ x → (y : ℕ) → member eqb (codes_of b (symbols us)) y ≡ true → member eqb u y ≡ true
      rest_of true e y k = h y (rw e (or_right (eqb (resolve b t) y) (member eqb (codes_of b (symbols us)) y) k))
      rest_of false e y k = h y (rw e k)

  row_held : Every (Held b these) ts
  row_held = symbols_in_lem ts these (λ y e. member-front (codes_of b (symbols ts)) input y e)

  every_lists : (l m : List ℕ) → Every (In (b ∷ []) these) l → Every (In (b ∷ []) these) m → Every (In (b ∷ []) these) (l ++ m)
  every_lists [] m h k = k
  every_lists (x ∷ l) m h k = (h.0, every_lists l m h.1 k)

  rules_in : Every (In (b ∷ []) these) (codes_of b (rules_symbols ts (entries ts)))
  rules_in = codes-held b these (rules_symbols ts (entries ts)) (rules-held b these ts (entries ts) row_held)

  candidates_in : Every (In (b ∷ []) these) (candidates text b ts first)
  unfolding candidates symbols_in
  candidates_in = go (ltb (get_or first 6 0) (length ts))
    where
      f : ℕ
      f = get_or first 6 0

      go : (x : Bool) → Every (In (b ∷ []) these) (cond x (line_codes b ts f ++ codes_of b (rules_symbols ts (entries ts))) (codes_of b (rules_symbols ts (entries ts)) ++ input))
      go true = every_lists (line_codes b ts f) (codes_of b (rules_symbols ts (entries ts))) (codes-held b these (symbols (line_range ts f)) (symbols-held b these (line_range ts f) (range-held b these ts (f + 1) (peek ts f).value row_held))) rules_in
      go false = every_lists (codes_of b (rules_symbols ts (entries ts))) input rules_in (each these input (λ y e. member_back (codes_of b (symbols ts)) input y e))

  -- all fit in two scratch rows
  pub codes_fit : length ts ≤ length text + 1 → length (gamma_codes text b ts first) ≤ 2 * (length text + 1)
  unfolding gamma_codes
  codes_fit h = omega (
    arith,
    few_noted (b ∷ []) these (candidates text b ts first) candidates_in,
    length-append (codes_of b (symbols ts)) input,
    length-map (symbols ts) (resolve b),
    symbols_few ts,
    input_few text ts (get_or first 2 0),
  )
