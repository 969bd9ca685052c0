-- Laws of the blank, Σ and Γ.
use mathlib.Core.Path.{◌≡◌, refl, sym, ap, ◌∙◌}
use mathlib.Core.Bool.{Bool, true, false, cond}
use mathlib.Core.Logic.{◌⊎◌, inl, inr, ⊎_elim}
use mathlib.Core.List.{List, [], ◌∷◌, ◌++◌, append-nil, append_assoc}
use Prim.Native.Nat.{ℕ, suc, ◌+◌, ◌-◌, ◌*◌, ◌≤◌, ◌<◌, min}
use native.Mathlib.Omega.{arith}
use borrow.Author.Rules.{rules}
use native.Mathlib.Numerals.{add-one}
use native.Mathlib.Decide.{dec_lt}
use borrow.Author.Tests.{eq-eqb, ne_eqb, eqb-true, lt-ltb, le-ltb}
use lib.Dec.{eqb}
use lib.ListN.{length, get_or, take, drop, length-append, drop_of_length-le, get_or-eq_default, length-drop}
use lib.Seq.{drop-cons, drop-drop, take-add, take_all, length-take-le}
use Rattle.diag.specs.declared.Span.{Span}
use Rattle.language.specs.Layout.{flat, place_words}
use Rattle.language.proofs.Counts.{flat_append}
use Rattle.tokens.specs.declared.Token.{Token}
use Rattle.tokens.specs.View.{token_in}
use Rattle.parser.specs.Row.{peek, ended}
use Rattle.parser.specs.Views.{is_symbol}
use Rattle.assembler.specs.Rows.{rows, place_of}
use Rattle.assembler.specs.Entries.{entries}
use Rattle.assembler.proofs.Rows.{row_read}
use Rattle.language.specs.Infer.{member}
use Rattle.sheet.specs.Rules.{resolve}
use Rattle.sheet.specs.Puts.{Puts}
use Rattle.sheet.specs.declared.put.Sheet.{Sheet}
use Rattle.sheet.proofs.Puts.{puts_none, puts_as, ◌▹◌, Left, left_on, left_end}
use Rattle.infer_symbols.specs.Symbols.{range, past_comma, quoted_pair, symbols, symbols_in, is_blank, has_blank, line_range, rules_symbols}
use Rattle.infer_symbols.specs.Alphabets.{listed_words, inferred_words, other_words, symbol_words, candidates, gamma_codes, declared_gamma, gamma_words, inferred_sigma, sigma_words}
use Rattle.infer_symbols.specs.Input.{input_of}
use Rattle.infer_symbols.specs.Codes.{noted, noted_all}
use Rattle.infer_symbols.specs.Notes.{listed, Sound, Notes, Uses}
use Rattle.infer_symbols.specs.declared.codes.Codes.{Codes}
use Rattle.infer_symbols.proofs.Noting.{notes_as, notes_then, uses_as}
use Rattle.infer_symbols.proofs.GlyphLaws.{range_none, range_past, range_in, symbols-on, symbols-one, symbols_no}

-- ---- one symbol
module _ (inferred : Bool) (blank : ℕ) (t : Token) (s : Sheet) (b : Bool) (test : b ≡ is_symbol t) where
  pub symbol-none : b ≡ false → Puts (flat (symbol_words inferred blank) (symbols (t ∷ []))) s s
  unfolding flat
  symbol-none e = puts_as (ap (flat (symbol_words inferred blank)) (symbols_no t (sym test ∙ e))) (puts_none s)

  module _ (is : b ≡ true) (c : ℕ) (code : c ≡ resolve blank t) where
    alone : flat (symbol_words inferred blank) (symbols (t ∷ [])) ≡ symbol_words inferred blank t
    unfolding flat
    alone = ap (flat (symbol_words inferred blank)) (symbols-one t (sym test ∙ is)) ∙ append-nil (symbol_words inferred blank t)

    pub symbol-put : (r : Sheet) → inferred ≡ false → (p : Span) → p ≡ place_of t → Puts (c ∷ place_words p) s r → Puts (flat (symbol_words inferred blank) (symbols (t ∷ []))) s r
    symbol-put r k p ep u = puts_as (alone ∙ ap (λ (k : Bool). symbol_words k blank t) k ∙ ap (λ (c : ℕ). c ∷ place_words (place_of t)) (sym code) ∙ ap (λ (p : Span). c ∷ place_words p) (sym ep)) u

    module _ (k : inferred ≡ true) where
      as-other : flat (symbol_words inferred blank) (symbols (t ∷ [])) ≡ cond (eqb c blank) [] (inferred_words c)
      unfolding other_words
      as-other = alone ∙ ap (λ (k : Bool). symbol_words k blank t) k ∙ ap (λ (c : ℕ). cond (eqb c blank) [] (inferred_words c)) (sym code)

      pub symbol-other : (r : Sheet) → (c ≡ blank → ⊥) → Puts (c ∷ 0 ∷ 0 ∷ []) s r → Puts (flat (symbol_words inferred blank) (symbols (t ∷ []))) s r
      symbol-other r n u = puts_as (as-other ∙ ap (λ (b : Bool). cond b [] (inferred_words c)) (ne_eqb c blank n)) u

      pub symbol-blank : c ≡ blank → Puts (flat (symbol_words inferred blank) (symbols (t ∷ []))) s s
      symbol-blank e = puts_as (as-other ∙ ap (λ (b : Bool). cond b [] (inferred_words c)) (eq-eqb c blank e)) (puts_none s)

-- at most three words each
pub listed_width : (blank : ℕ) (t : Token) → length (listed_words blank t) ≤ 3
listed_width blank t = omega arith

pub other_width : (blank : ℕ) (t : Token) → length (other_words blank t) ≤ 3
unfolding other_words
other_width blank t = go (eqb (resolve blank t) blank)
  where
    go : (b : Bool) → length (cond b [] (inferred_words (resolve blank t))) ≤ 3
    go true = omega arith
    go false = omega arith

pub flat_width : (f : Token → List ℕ) → ((t : Token) → length (f t) ≤ 3) → (ts : List Token) → length (flat f (symbols ts)) ≤ 3 * length ts
unfolding flat symbols
flat_width f w [] = omega arith
flat_width f w (t ∷ ts) = go (is_symbol t) (flat_width f w ts)
  where
    go : (b : Bool) → length (flat f (symbols ts)) ≤ 3 * length ts → length (flat f (cond b (t ∷ []) [] ++ symbols ts)) ≤ 3 * suc (length ts)
    go true h = omega (arith, length-append (f t) (flat f (symbols ts)), w t)
    go false h = omega arith

-- ---- commas
comma_no : (t : Token) → t.kind ≡ 8 → is_symbol t ≡ false
unfolding is_symbol
comma_no t e = rw e

symbols_past : (ts : List Token) (i to : ℕ) → (peek ts i).kind ≡ 8 → symbols (range ts i to) ≡ symbols (range ts (i + 1) to)
symbols_past ts i to e = go (dec_lt i to)
  where
    go : Dec (i < to) → symbols (range ts i to) ≡ symbols (range ts (i + 1) to)
    go (yes h) = symbols-on ts i to h ∙ ap (λ (l : List Token). l ++ symbols (range ts (i + 1) to)) (symbols_no (peek ts i) (comma_no (peek ts i) e))
    go (no h) = ap symbols (range_none ts i to (omega arith) ∙ sym (range_none ts (i + 1) to (omega arith)))

module _ (ts : List Token) (i r : ℕ) (e : r ≡ past_comma ts i) where
  past_cases : (r ≡ i) ⊎ (r ≡ i + 1)
  unfolding past_comma
  past_cases = go (eqb (peek ts i).kind 8) refl
    where
      go : (b : Bool) → eqb (peek ts i).kind 8 ≡ b → (r ≡ i) ⊎ (r ≡ i + 1)
      go true q = inr (e ∙ rw q)
      go false q = inl (e ∙ rw q)

  -- the loops over a list that a comma parts: what is left falls
  pub past_falls : (to j k : ℕ) → i ≡ j + 1 → j < to → r ≤ k → to - k < to - j
  past_falls to j k g h l = ⊎_elim (λ (p : r ≡ i). omega arith) (λ (p : r ≡ i + 1). omega arith) past_cases

-- ---- a quoted character and a comma
pair-comma : (count : ℕ) (w : List ℕ) (i : ℕ) → 4 * count ≤ length w → i + 1 < count → quoted_pair w i ≡ true → (peek (rows count w) (i + 1)).kind ≡ 8
pair-comma count w i h l e =
    ap (λ (t : Token). t.kind) (sym (row_read count w (i + 1) (token_in w (i + 1)) h l refl)) ∙ eqb-true (token_in w (i + 1)).kind 8 (go (eqb (token_in w i).kind 2) (eqb (token_in w (i + 1)).kind 8) e)
  where
    go : (a b : Bool) → cond a b false ≡ true → b ≡ true
    go true b q = q
    go false b q = absurd (let n : ◌≡◌ {A = ℕ} 0 1 = cc in omega arith)

-- ---- ranges in two parts
range_split : (ts : List Token) (i j k : ℕ) → i ≤ j → j - i ≤ k - i → range ts i k ≡ range ts i j ++ range ts j k
range_split ts i j k h g =
    let e : k - i ≡ j - i + (k - j) = omega arith in
    let z : i + (j - i) ≡ j = omega arith in
    ap (λ (m : ℕ). take m (drop i ts)) e ∙ take-add (j - i) (k - j) (drop i ts)
    ∙ ap (λ (l : List Token). range ts i j ++ take (k - j) l) (drop-drop (j - i) i ts ∙ ap (λ (m : ℕ). drop m ts) z)

symbols-append : (xs ys : List Token) → symbols (xs ++ ys) ≡ symbols xs ++ symbols ys
unfolding symbols
symbols-append [] ys = refl
symbols-append (t ∷ xs) ys =
    let l : List Token = cond (is_symbol t) (t ∷ []) [] in
    ap (λ (r : List Token). l ++ r) (symbols-append xs ys) ∙ sym (append_assoc l (symbols xs) (symbols ys))

words_split : (f : Token → List ℕ) (ts : List Token) (i j k : ℕ) → i ≤ j → j - i ≤ k - i → flat f (symbols (range ts i k)) ≡ flat f (symbols (range ts i j)) ++ flat f (symbols (range ts j k))
words_split f ts i j k h g =
    ap (λ (l : List Token). flat f (symbols l)) (range_split ts i j k h g) ∙ ap (flat f) (symbols-append (range ts i j) (range ts j k))
    ∙ flat_append f (symbols (range ts i j)) (symbols (range ts j k))

-- ---- a run of symbols, as words f: it has come to the index i
pub record Running (f : Token → List ℕ) (ts : List Token) (from to : ℕ) (first now : Sheet) (i : ℕ) : Type 0 where
  pub low : from ≤ i
  pub high : i - from ≤ to - from
  pub puts : Puts (flat f (symbols (range ts from i))) first now

pub running_start : (f : Token → List ℕ) (ts : List Token) (from to : ℕ) (s : Sheet) → Running f ts from to s s from
unfolding flat symbols
running_start f ts from to s = record {
  low = omega arith;
  high = omega arith;
  puts = puts_as (ap (λ (l : List Token). flat f (symbols l)) (range_none ts from from (omega arith))) (puts_none s);
}

-- a symbol and a comma
pub running_on : (f : Token → List ℕ) (count : ℕ) (w : List ℕ) (from to : ℕ) (first now : Sheet) (i : ℕ) → Running f (rows count w) from to first now i → 4 * count ≤ length w
    → (last : ℕ) → last ≡ min count to - 1 → i < last → (b : Bool) → b ≡ quoted_pair w i → b ≡ true → (t : Token) → t ≡ token_in w i → (then : Sheet) → Puts (flat f (symbols (t ∷ []))) now then
    → Running f (rows count w) from to first then (i + 2)
unfolding symbols
running_on f count w from to first now i r room last ends h b pair is t e then u =
    let ts : List Token = rows count w in
    let at : t ≡ peek ts i = row_read count w i t room (omega arith) e in
    let comma : (peek ts (i + 1)).kind ≡ 8 = pair-comma count w i room (omega arith) (sym pair ∙ is) in
    let two : symbols (range ts i (i + 2)) ≡ symbols (t ∷ []) =
    symbols-on ts i (i + 2) (omega arith)
    ∙ ap (λ (l : List Token). symbols (peek ts i ∷ []) ++ l) (symbols_past ts (i + 1) (i + 2) comma ∙ ap symbols (range_none ts (i + 1 + 1) (i + 2) (omega arith)))
    ∙ append-nil (symbols (peek ts i ∷ [])) ∙ ap (λ (t : Token). symbols (t ∷ [])) (sym at) in
    record {
      low = omega (arith, r.low);
      high = omega (arith, r.low, r.high);
      puts = puts_as (words_split f ts from i (i + 2) r.low (omega (arith, r.low)) ∙ ap (λ (l : List Token). flat f (symbols (range ts from i)) ++ flat f l) two) (r.puts ▹ u);
    }

-- past a comma, if one stands there
comma-past : (ts : List Token) (i to k : ℕ) → k ≡ past_comma ts i → symbols (range ts i to) ≡ symbols (range ts k to)
unfolding past_comma
comma-past ts i to k past = go (eqb (peek ts i).kind 8) refl
  where
    go : (b : Bool) → eqb (peek ts i).kind 8 ≡ b → symbols (range ts i to) ≡ symbols (range ts k to)
    go true q = symbols_past ts i to (eqb-true (peek ts i).kind 8 q) ∙ ap (λ (m : ℕ). symbols (range ts m to)) (sym (past ∙ rw q))
    go false q = ap (λ (m : ℕ). symbols (range ts m to)) (sym (past ∙ rw q))

-- ---- the words f of the symbols of a range: the walk has come to the index i
module _ (f : Token → List ℕ) (ts : List Token) (from to i : ℕ) (now first : Sheet) (all : List ℕ) (l : Left (flat f (symbols (range ts i to))) now all first) where
  pub putting_end : to ≤ i → Puts all first now
  unfolding flat symbols
  putting_end h = left_end (ap (λ (l : List Token). flat f (symbols l)) (range_none ts i to h)) l

  -- one symbol, a comma or none behind it, and a run from there on
  pub putting_on : (t : Token) → i < to → t ≡ peek ts i → (p : Sheet) → Puts (flat f (symbols (t ∷ []))) now p → (k : ℕ) → k ≡ past_comma ts (i + 1) → (j : ℕ) → k ≤ j → j - k ≤ to - k → (r : Sheet)
      → Puts (flat f (symbols (range ts k j))) p r → Left (flat f (symbols (range ts j to))) r all first
  putting_on t h e p u k past j low high r v =
      left_on {one = flat f (symbols (range ts k j))} (words_split f ts k j to low high)
      (left_on {one = flat f (symbols (t ∷ []))} {more = flat f (symbols (range ts k to))}
      (ap (flat f) (symbols-on ts i to h ∙ ap (λ (t : Token). symbols (t ∷ []) ++ symbols (range ts (i + 1) to)) (sym e) ∙ ap (λ (l : List Token). symbols (t ∷ []) ++ l) (comma-past ts (i + 1) to k past))
      ∙ flat_append f (symbols (t ∷ [])) (symbols (range ts k to)))
      l u) v

-- ---- the blank among symbols
module _ (blank : ℕ) (ts : List Token) (from to i : ℕ) (inv : has_blank blank (range ts i to) ≡ has_blank blank (range ts from to)) where
  pub blank_end : to ≤ i → false ≡ has_blank blank (range ts from to)
  unfolding has_blank
  blank_end h = sym (ap (has_blank blank) (range_none ts i to h)) ∙ inv

  module _ (t : Token) (b : Bool) (low : i < to) (at : t ≡ peek ts i) (test : b ≡ is_blank blank t) where
    is : is_blank blank (peek ts i) ≡ b
    is = ap (is_blank blank) (sym at) ∙ sym test

    feed : is_blank blank ended ≡ false
    unfolding is_blank
    feed = refl

    pub blank_here : b ≡ true → true ≡ has_blank blank (range ts from to)
    unfolding has_blank
    blank_here e = go (dec_lt i (length ts))
      where
        go : Dec (i < length ts) → true ≡ has_blank blank (range ts from to)
        go (yes q) = sym (ap (has_blank blank) (range_in ts i to low q) ∙ rw (is ∙ e, has_blank)) ∙ inv
        go (no q) =
            let past : peek ts i ≡ ended = get_or-eq_default ts ended {n = i} (omega arith) in
            let z : ◌≡◌ {A = Bool} true false = sym e ∙ sym is ∙ ap (is_blank blank) past ∙ feed in
            absurd (let n : ◌≡◌ {A = ℕ} 0 1 = cc in omega arith)

    pub blank_on : b ≡ false → has_blank blank (range ts (i + 1) to) ≡ has_blank blank (range ts from to)
    unfolding has_blank
    blank_on e = go (dec_lt i (length ts))
      where
        go : Dec (i < length ts) → has_blank blank (range ts (i + 1) to) ≡ has_blank blank (range ts from to)
        go (yes q) = sym (ap (has_blank blank) (range_in ts i to low q) ∙ rw (is ∙ e, has_blank)) ∙ inv
        go (no q) = ap (has_blank blank) (range_past ts (i + 1) to (omega arith) ∙ sym (range_past ts i to (omega arith))) ∙ inv

pub ruleset blanks = (rules, blank_here, blank_on, blank_end)

-- ---- codes without a place: the walk has come to the code i
module _ (cs : List ℕ) (i : ℕ) (now first : Sheet) (l : Left (flat inferred_words (drop i cs)) now (flat inferred_words cs) first) where
  pub coding_on : i < length cs → (c : ℕ) → c ≡ get_or cs i 0 → (then : Sheet) → Puts (c ∷ 0 ∷ 0 ∷ []) now then → Left (flat inferred_words (drop (i + 1) cs)) then (flat inferred_words cs) first
  unfolding flat
  coding_on h c e then u = left_on {one = c ∷ 0 ∷ 0 ∷ []}
      (ap (flat inferred_words) (drop-cons cs i 0 h ∙ ap (λ (x : ℕ). x ∷ drop (suc i) cs) (sym e) ∙ ap (λ (j : ℕ). c ∷ drop j cs) (sym (add-one i)))) l u

  pub coding_end : length cs ≤ i → Puts (flat inferred_words cs) first now
  unfolding flat
  coding_end h = left_end (ap (flat inferred_words) (drop_of_length-le cs {i = i} h)) l

-- ---- a line
pub line-put : (f : Token → List ℕ) (ts : List Token) (i : ℕ) (t : Token) {s r : Sheet} → t ≡ peek ts i → Puts (flat f (symbols (range ts (i + 1) t.value))) s r → Puts (flat f (symbols_in ts i)) s r
unfolding symbols_in
line-put f ts i t e u = puts_as (ap (λ (t : Token). flat f (symbols (range ts (i + 1) t.value))) (sym e)) u

pub line-noted : {blank : ℕ} (ts : List Token) (i : ℕ) (t : Token) {s r : Codes} → t ≡ peek ts i → Uses blank (symbols (range ts (i + 1) t.value)) s r → Uses blank (symbols_in ts i) s r
unfolding symbols_in
line-noted ts i t e u = uses_as (ap (λ (t : Token). symbols (range ts (i + 1) t.value)) (sym e)) u

pub line-has : (blank : ℕ) (ts : List Token) (i : ℕ) (t : Token) → t ≡ peek ts i → (b : Bool) {x : Bool} → b ≡ has_blank blank (range ts (i + 1) t.value) → b ≡ x → has_blank blank (line_range ts i) ≡ x
line-has blank ts i t e b f g = ap (λ (t : Token). has_blank blank (range ts (i + 1) t.value)) (sym e) ∙ sym f ∙ g

-- ---- Γ's codes where it is not declared
module _ (text : List ℕ) (blank : ℕ) (ts : List Token) (first : List ℕ) (s p r : Codes) where
  pub candidates-declared : (i : ℕ) → i ≡ get_or first 6 0 → get_or first 6 0 < length ts → Uses blank (symbols_in ts i) s p → Uses blank (rules_symbols ts (entries ts)) p r → Notes (candidates text blank ts first) s r
  unfolding candidates
  candidates-declared i e h u v = notes_as (rw (lt-ltb (get_or first 6 0) (length ts) h, ← e)) (notes_then u.notes v.notes)

  pub candidates-not : length ts ≤ get_or first 6 0 → Uses blank (rules_symbols ts (entries ts)) s p → Notes (input_of text ts (get_or first 2 0)) p r → Notes (candidates text blank ts first) s r
  unfolding candidates
  candidates-not h u v = notes_as (rw (le-ltb (get_or first 6 0) (length ts) h)) (notes_then u.notes v)

-- ---- Γ and Σ in the sheet
module _ (blank : ℕ) (ts : List Token) (first cs : List ℕ) (s r : Sheet) where
  pub gamma-codes : length ts ≤ get_or first 7 0 → Puts (flat inferred_words cs) s r → Puts (gamma_words blank ts first cs) s r
  unfolding gamma_words
  gamma-codes h u = puts_as (rw (le-ltb (get_or first 7 0) (length ts) h)) u

  pub gamma-has : (i : ℕ) → i ≡ get_or first 7 0 → get_or first 7 0 < length ts → has_blank blank (line_range ts i) ≡ true → Puts (flat (listed_words blank) (symbols_in ts i)) s r → Puts (gamma_words blank ts first cs) s r
  unfolding gamma_words declared_gamma
  gamma-has i e h b u = puts_as (rw (lt-ltb (get_or first 7 0) (length ts) h, ← e, b) (append-nil (flat (listed_words blank) (symbols_in ts i)))) u

  pub gamma-lacks : (i : ℕ) → i ≡ get_or first 7 0 → get_or first 7 0 < length ts → has_blank blank (line_range ts i) ≡ false → (p : Sheet) → Puts (flat (listed_words blank) (symbols_in ts i)) s p
      → Puts (blank ∷ 0 ∷ 0 ∷ []) p r → Puts (gamma_words blank ts first cs) s r
  unfolding gamma_words declared_gamma
  gamma-lacks i e h b p u v = puts_as (rw (lt-ltb (get_or first 7 0) (length ts) h, ← e, b)) (u ▹ v)

  pub sigma-declared : (i : ℕ) → i ≡ get_or first 6 0 → get_or first 6 0 < length ts → Puts (flat (listed_words blank) (symbols_in ts i)) s r → Puts (sigma_words blank ts first cs) s r
  unfolding sigma_words
  sigma-declared i e h u = puts_as (rw (lt-ltb (get_or first 6 0) (length ts) h, ← e)) u

  module _ (no : length ts ≤ get_or first 6 0) where
    pub sigma-line : (i : ℕ) → i ≡ get_or first 7 0 → get_or first 7 0 < length ts → Puts (flat (other_words blank) (symbols_in ts i)) s r → Puts (sigma_words blank ts first cs) s r
    unfolding sigma_words inferred_sigma
    sigma-line i e h u = puts_as (rw (le-ltb (get_or first 6 0) (length ts) no, lt-ltb (get_or first 7 0) (length ts) h, ← e)) u

    pub sigma-codes : length ts ≤ get_or first 7 0 → Puts (flat inferred_words (drop 1 cs)) s r → Puts (sigma_words blank ts first cs) s r
    unfolding sigma_words inferred_sigma
    sigma-codes h u = puts_as (rw (le-ltb (get_or first 6 0) (length ts) no, le-ltb (get_or first 7 0) (length ts) h)) u

pub sigma-others : (blank : ℕ) (ts : List Token) (first cs : List ℕ) (s r : Sheet) → length ts ≤ get_or first 6 0 → length ts ≤ get_or first 7 0 → Puts (flat inferred_words (take (length cs - 1) (drop 1 cs))) s r
    → Puts (sigma_words blank ts first cs) s r
sigma-others blank ts first cs s r lacks h u = sigma-codes blank ts first cs s r lacks h (puts_as (ap (flat inferred_words) (sym (take_all (length cs - 1) (drop 1 cs) (omega (arith, length-drop 1 cs))))) u)

pub sigma-none : (blank : ℕ) (ts : List Token) (first cs : List ℕ) (s : Sheet) → length ts ≤ get_or first 6 0 → length ts ≤ get_or first 7 0 → length cs < 1 → Puts (sigma_words blank ts first cs) s s
unfolding flat
sigma-none blank ts first cs s lacks h few = sigma-codes blank ts first cs s s lacks h (puts_as (ap (flat inferred_words) (drop_of_length-le cs {i = 1} (omega arith))) (puts_none s))

-- ---- the codes at the front of a row
module _ (blank : ℕ) (text first row : List ℕ) (ts : List Token) (fits : length (gamma_codes text blank ts first) ≤ length row) where
  -- the blank first
  all-noted : {cs : List ℕ} → cs ≡ [] → noted_all cs (blank ∷ candidates text blank ts first) ≡ gamma_codes text blank ts first
  unfolding noted_all noted member gamma_codes
  all-noted e = ap (λ (cs : List ℕ). noted_all cs (blank ∷ candidates text blank ts first)) e

  module _ (a p r : Codes) (empty : listed a ≡ []) (sound : Sound a) (size : length a.row.now ≡ length row) (u : Notes (blank ∷ []) a p) (v : Notes (candidates text blank ts first) p r) (n : ℕ) (number : n ≡ r.count) where
    noted-both : Notes (blank ∷ candidates text blank ts first) a r
    noted-both = notes_then u v

    all-listed : listed r ≡ gamma_codes text blank ts first
    all-listed = noted-both.notes sound (omega (arith, fits, ap length (all-noted empty), size)) ∙ all-noted empty

    pub gamma-coded : (last : List ℕ) → last ≡ r.row.now → take n last ≡ gamma_codes text blank ts first
    gamma-coded last e = ap (take n) e ∙ ap (λ (k : ℕ). take k r.row.now) number ∙ all-listed

    pub gamma-counted : n ≡ length (gamma_codes text blank ts first)
    gamma-counted = omega (arith, number, ap length all-listed, length-take-le r.count r.row.now (noted-both.sound sound).low)
