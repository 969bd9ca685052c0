-- Laws of the characters that rules use.
use mathlib.Core.Path.{◌≡◌, refl, sym, ap, subst, ◌∙◌}
use mathlib.Core.Bool.{Bool, true, false, cond, not, ◌||◌, ◌&&◌, false≢true}
use mathlib.Core.List.{List, [], ◌∷◌, ◌++◌, append-nil, append_assoc}
use Prim.Native.Nat.{ℕ, zero, suc, ◌+◌, ◌-◌, ◌≤◌, ◌<◌}
use native.Mathlib.Omega.{arith}
use native.Mathlib.Numerals.{add-one}
use native.Mathlib.Decide.{dec_lt}
use borrow.Author.Tests.{eq-eqb, ne_eqb, eqb-true}
use lib.Dec.{eqb}
use lib.ListN.{length, take, drop, drop_of_length-le, get_or-eq_default}
use lib.Seq.{drop-cons, take-nil}
use Rattle.tokens.specs.declared.Token.{Token}
use Rattle.parser.specs.Views.{is_symbol}
use Rattle.infer_symbols.specs.declared.glyphs.Walk.{Walk}
use Rattle.infer_symbols.specs.declared.glyphs.Walk.TheVariants.{Outside, Open, Behind}
use Rattle.infer_symbols.specs.declared.codes.Codes.{Codes}
use Rattle.parser.specs.Row.{peek, ended}
use Rattle.assembler.specs.Entries.{Entry, entry_at, has_kind, behind}
use Rattle.assembler.proofs.Rows.{entries_at, entries-step, entries-end}
use Rattle.sheet.specs.Rules.{resolve}
use Rattle.infer_symbols.specs.Codes.{noted, noted_all}
use Rattle.infer_symbols.specs.Symbols.{range, symbols, is_new, takes, walked, firsts, outside, others, further, part_symbols, rule_symbols, rules_symbols, codes_of}
use Rattle.infer_symbols.specs.Notes.{listed, Notes, Uses}
use Rattle.infer_symbols.proofs.CodeLaws.{noted-member}
use Rattle.infer_symbols.proofs.Noting.{Left, left_on, left_as, left_like, Yet, uses_none, uses_as, uses_on, yet_start, yet_on, yet_end}

-- ---- one token
one-symbol : (t : Token) → symbols (t ∷ []) ≡ cond (is_symbol t) (t ∷ []) []
unfolding symbols
one-symbol t = append-nil (cond (is_symbol t) (t ∷ []) [])

pub symbols-one : (t : Token) → is_symbol t ≡ true → symbols (t ∷ []) ≡ t ∷ []
unfolding symbols
symbols-one t e = rw (e, symbols)

pub symbols_no : (t : Token) → is_symbol t ≡ false → symbols (t ∷ []) ≡ []
unfolding symbols
symbols_no t e = rw (e, symbols)

pub symbol-noted : {blank : ℕ} {b : Bool} (t : Token) {s r : Codes} → b ≡ is_symbol t → Uses blank (cond b (t ∷ []) []) s r → Uses blank (symbols (t ∷ [])) s r
symbol-noted t e u = uses_as (one-symbol t ∙ ap (λ (b : Bool). cond b (t ∷ []) []) (sym e)) u

pub if_none : {blank : ℕ} {b : Bool} (t : Token) (s : Codes) → b ≡ false → Uses blank (cond b (t ∷ []) []) s s
if_none t s e = rw e (uses_none s)

-- ---- ranges of tokens
pub range_none : (ts : List Token) (i j : ℕ) → j ≤ i → range ts i j ≡ []
range_none ts i j h = let e : j - i ≡ 0 = omega arith in rw e

pub range_past : (ts : List Token) (i j : ℕ) → length ts ≤ i → range ts i j ≡ []
range_past ts i j h = rw (drop_of_length-le ts {i = i} h, take-nil {A = Token} (j - i))

pub range_in : (ts : List Token) (i j : ℕ) → i < j → i < length ts → range ts i j ≡ peek ts i ∷ range ts (i + 1) j
range_in ts i j h g =
    let e : j - i ≡ suc (j - (i + 1)) = omega arith in
    ap (take (j - i)) (drop-cons ts i ended g ∙ ap (λ (k : ℕ). peek ts i ∷ drop k ts) (sym (add-one i))) ∙ ap (λ (k : ℕ). take k (peek ts i ∷ drop (i + 1) ts)) e

-- what is made of the tokens of a range, one by one; past the last there is a line feed, of which nothing is made
module _ (f : List Token → List Token) (g : Token → List Token) (next : List Token → List Token) (nothing : f [] ≡ []) (none : next [] ≡ []) (feed : g ended ≡ []) (step : (t : Token) (ts : List Token) → f (t ∷ ts) ≡ g t ++ next ts) where
  range-on : (ts : List Token) (i j : ℕ) → i < j → f (range ts i j) ≡ g (peek ts i) ++ next (range ts (i + 1) j)
  range-on ts i j h = go (dec_lt i (length ts))
    where
      go : Dec (i < length ts) → f (range ts i j) ≡ g (peek ts i) ++ next (range ts (i + 1) j)
      go (yes q) = ap f (range_in ts i j h q) ∙ step (peek ts i) (range ts (i + 1) j)
      go (no q) =
          let past : peek ts i ≡ ended = get_or-eq_default ts ended {n = i} (omega arith) in
          ap f (range_past ts i j (omega arith)) ∙ nothing
          ∙ sym (ap (λ (t : Token). g t ++ next (range ts (i + 1) j)) past ∙ ap (λ (l : List Token). l ++ next (range ts (i + 1) j)) feed ∙ ap next (range_past ts (i + 1) j (omega arith)) ∙ none)

pub symbols-on : (ts : List Token) (i j : ℕ) → i < j → symbols (range ts i j) ≡ symbols (peek ts i ∷ []) ++ symbols (range ts (i + 1) j)
unfolding symbols
symbols-on ts i j h = range-on symbols (λ t. symbols (t ∷ [])) symbols refl refl refl (λ t l. go (is_symbol t) t (symbols l)) ts i j h
  where
    go : (b : Bool) (t : Token) (l : List Token) → cond b (t ∷ []) [] ++ l ≡ (cond b (t ∷ []) [] ++ []) ++ l
    go true t l = refl
    go false t l = refl

firsts-on : (s : Walk) (ts : List Token) (i j : ℕ) → i < j → firsts s (range ts i j) ≡ cond (takes s (peek ts i)) (peek ts i ∷ []) [] ++ firsts (walked s (peek ts i)) (range ts (i + 1) j)
unfolding firsts takes walked
firsts-on s ts i j h = go (dec_lt i (length ts))
  where
    none : (s : Walk) → cond (takes s ended) (ended ∷ []) [] ≡ []
    none Outside = refl
    none Open = refl
    none Behind = refl

    go : Dec (i < length ts) → firsts s (range ts i j) ≡ cond (takes s (peek ts i)) (peek ts i ∷ []) [] ++ firsts (walked s (peek ts i)) (range ts (i + 1) j)
    go (yes q) = ap (firsts s) (range_in ts i j h q)
    go (no q) =
        let past : peek ts i ≡ ended = get_or-eq_default ts ended {n = i} (omega arith) in
        ap (firsts s) (range_past ts i j (omega arith))
        ∙ sym (ap (λ (t : Token). cond (takes s t) (t ∷ []) [] ++ firsts (walked s t) (range ts (i + 1) j)) past
        ∙ ap (λ (l : List Token). cond (takes s ended) (ended ∷ []) [] ++ firsts (walked s ended) l) (range_past ts (i + 1) j (omega arith)) ∙ ap (λ (l : List Token). l ++ []) (none s))

-- ---- symbols that differ from the last
-- a new one is a symbol
new_is : (last t : Token) → is_new last t ≡ true → is_symbol t ≡ true
unfolding is_new
new_is last t e = go (is_symbol t) e
  where
    go : (b : Bool) → cond b (not (eqb t.kind last.kind) || not (eqb t.value last.value)) false ≡ true → b ≡ true
    go true e = refl
    go false e = e

-- a symbol that is not new is like the last in kind and value
both_no : (x y : Bool) → (not x || not y) ≡ false → (x ≡ true) × (y ≡ true)
both_no true true e = (refl, refl)
both_no true false e = absurd (false≢true (sym e))
both_no false y e = absurd (false≢true (sym e))

new_like : (last t : Token) → is_symbol t ≡ true → is_new last t ≡ false → (t.kind ≡ last.kind) × (t.value ≡ last.value)
unfolding is_new
new_like last t s e =
    let q : (not (eqb t.kind last.kind) || not (eqb t.value last.value)) ≡ false = rw s at e in
    let p : (eqb t.kind last.kind ≡ true) × (eqb t.value last.value ≡ true) = both_no (eqb t.kind last.kind) (eqb t.value last.value) q in
    (eqb-true t.kind last.kind p.0, eqb-true t.value last.value p.1)

resolve_like : (blank : ℕ) (last t : Token) → t.kind ≡ last.kind → t.value ≡ last.value → resolve blank last ≡ resolve blank t
unfolding resolve
resolve_like blank last t k v = rw (k, v)

symbol_no_feed : (t : Token) → is_symbol t ≡ true → t.kind ≡ 13 → ⊥
unfolding is_symbol
symbol_no_feed t e k =
    let z : false ≡ true = rw (ne_eqb t.kind 0 (λ e. omega arith), ne_eqb t.kind 1 (λ e. omega arith), ne_eqb t.kind 2 (λ e. omega arith), ne_eqb t.kind 11 (λ e. omega arith)) at e in
    false≢true z

noted-again : (cs xs : List ℕ) (c : ℕ) → noted_all cs (c ∷ xs) ≡ noted_all cs (c ∷ c ∷ xs)
unfolding noted noted_all
noted-again cs xs c = ap (λ (l : List ℕ). noted_all l xs) (sym (rw (noted-member cs c)))

-- a character was just noted, and with it from before on all is noted that was to be noted from the first codes on
pub record Again (c : ℕ) (rest : List ℕ) (now : Codes) (all : List ℕ) (first : Codes) : Type 0 where
  pub before : Codes
  pub one : Notes (c ∷ []) before now
  pub left : Left (c ∷ rest) before all first

again_left : {c : ℕ} {rest all : List ℕ} {now first : Codes} → Again c rest now all first → Left rest now all first
again_left {c} g = left_on {one = c ∷ []} refl g.left g.one

-- the walk has come to the index i; the last symbol that was noted, if there is one, may be noted again
pub record Ranging (blank : ℕ) (ts : List Token) (last : Token) (i to : ℕ) (now : Codes) (all : List Token) (first : Codes) : Type 0 where
  pub yet : Yet blank (symbols (range ts i to)) now all first
  pub again : (last.kind ≡ 13 → ⊥) → Again (resolve blank last) (codes_of blank (symbols (range ts i to))) now (codes_of blank all) first

module _ (blank : ℕ) (ts : List Token) (last : Token) (i to : ℕ) (now : Codes) (all : List Token) (first : Codes) (g : Ranging blank ts last i to now all first) where
  pub ranging_end : to ≤ i → Uses blank all first now
  unfolding symbols
  ranging_end h = yet_end (ap symbols (range_none ts i to h)) g.yet

  module _ (t : Token) (low : i < to) (at : t ≡ peek ts i) (new : Bool) (test : new ≡ is_new last t) (last' : Token) (now' : Codes) where
    abbrev more : List Token
    more = symbols (range ts (i + 1) to)

    here : symbols (range ts i to) ≡ symbols (t ∷ []) ++ more
    here = symbols-on ts i to low ∙ ap (λ (t : Token). symbols (t ∷ []) ++ more) (sym at)

    starts : is_symbol t ≡ true → symbols (range ts i to) ≡ t ∷ more
    starts e = here ∙ ap (λ (l : List Token). l ++ more) (symbols-one t e)

    anew : {c : ℕ} → c ≡ resolve blank t → Again c (codes_of blank more) now' (codes_of blank all) first → Ranging blank ts t (i + 1) to now' all first
    anew e a = record { yet = record { left = again_left a }; again = λ no. rw (← e) a }

    pub ranging_noted : new ≡ true → (c : ℕ) → c ≡ resolve blank t → (then : Codes) → Notes (c ∷ []) now then → now' ≡ then → last' ≡ t → Ranging blank ts last' (i + 1) to now' all first
    ranging_noted e c code then u f h = rw h (anew code (record {
      before = now;
      one = rw f u;
      left = left_as refl (ap (codes_of blank) (starts (new_is last t (sym test ∙ e))) ∙ ap (λ (c : ℕ). c ∷ codes_of blank more) (sym code)) g.yet.left;
    }))

    pub ranging_passed : new ≡ false → now' ≡ now → last' ≡ last → Ranging blank ts last' (i + 1) to now' all first
    ranging_passed e f h = rw (f, h) (go (is_symbol t) refl)
      where
        go : (b : Bool) → is_symbol t ≡ b → Ranging blank ts last (i + 1) to now all first
        go false n =
            let q : symbols (range ts i to) ≡ more = here ∙ ap (λ (l : List Token). l ++ more) (symbols_no t n) in
            record { yet = record { left = left_as refl (ap (codes_of blank) q) g.yet.left }; again = λ no. subst (λ (l : List Token). Again (resolve blank last) (codes_of blank l) now (codes_of blank all) first) q (g.again no) }
        go true y =
            let l : (t.kind ≡ last.kind) × (t.value ≡ last.value) = new_like last t y (sym test ∙ e) in
            let q : codes_of blank (symbols (range ts i to)) ≡ resolve blank last ∷ codes_of blank more = ap (codes_of blank) (starts y) ∙ ap (λ (c : ℕ). c ∷ codes_of blank more) (sym (resolve_like blank last t l.0 l.1)) in
            let b : Again (resolve blank last) (resolve blank last ∷ codes_of blank more) now (codes_of blank all) first =
            subst (λ (l : List ℕ). Again (resolve blank last) l now (codes_of blank all) first) q (g.again (λ k. symbol_no_feed t y (l.0 ∙ k))) in
            let a : Again (resolve blank last) (codes_of blank more) now (codes_of blank all) first =
            record { before = b.before; one = b.one; left = left_like (λ h. noted-again (listed b.before) (codes_of blank more) (resolve blank last)) b.left } in
            record { yet = record { left = again_left a }; again = λ no. a }

-- ---- the first members of sets
module _ {blank : ℕ} (ts : List Token) (s : Walk) (i to : ℕ) {now : Codes} {all : List Token} {first : Codes} (g : Yet blank (firsts s (range ts i to)) now all first) where
  pub first_end : to ≤ i → Uses blank all first now
  unfolding firsts
  first_end h = yet_end (ap (λ (l : List Token). firsts s l) (range_none ts i to h)) g

  pub first_next : {t : Token} {s' : Walk} {b : Bool} {then : Codes} → i < to → t ≡ peek ts i → b ≡ takes s t → s' ≡ walked s t → Uses blank (cond b (t ∷ []) []) now then
      → Yet blank (firsts s' (range ts (i + 1) to)) then all first
  first_next {t} low at e f u = rw (f, at) (yet_on (firsts-on s ts i to low) g (rw (e, at) at u))

-- ---- further members
others_stop : (seen : Bool) (ts : List Token) (i j : ℕ) → i < j → (peek ts i).kind ≡ 7 → others seen (range ts i j) ≡ []
unfolding others
others_stop seen ts i j h e = go (dec_lt i (length ts))
  where
    go : Dec (i < length ts) → others seen (range ts i j) ≡ []
    go (yes q) = ap (others seen) (range_in ts i j h q) ∙ rw (eq-eqb (peek ts i).kind 7 e, others)
    go (no q) = ap (others seen) (range_past ts i j (omega arith))

others-on : (seen : Bool) (ts : List Token) (i j : ℕ) → i < j → ((peek ts i).kind ≡ 7 → ⊥)
    → others seen (range ts i j) ≡ cond seen (symbols (peek ts i ∷ [])) [] ++ others (cond seen true (is_symbol (peek ts i))) (range ts (i + 1) j)
unfolding others
others-on seen ts i j h e = go (dec_lt i (length ts))
  where
    none : (b : Bool) → cond b (symbols (ended ∷ [])) [] ≡ []
    none true = symbols_no ended refl
    none false = refl

    go : Dec (i < length ts) → others seen (range ts i j) ≡ cond seen (symbols (peek ts i ∷ [])) [] ++ others (cond seen true (is_symbol (peek ts i))) (range ts (i + 1) j)
    go (yes q) = ap (others seen) (range_in ts i j h q) ∙ rw (ne_eqb (peek ts i).kind 7 e, others)
    go (no q) =
        let past : peek ts i ≡ ended = get_or-eq_default ts ended {n = i} (omega arith) in
        ap (others seen) (range_past ts i j (omega arith))
        ∙ sym (ap (λ (t : Token). cond seen (symbols (t ∷ [])) [] ++ others (cond seen true (is_symbol t)) (range ts (i + 1) j)) past
        ∙ ap (λ (l : List Token). cond seen (symbols (ended ∷ [])) [] ++ others (cond seen true (is_symbol ended)) l) (range_past ts (i + 1) j (omega arith)) ∙ ap (λ (l : List Token). l ++ []) (none seen))

pub seen-too : (seen b c : Bool) → (seen || b) ≡ cond seen true b
seen-too true b c = refl
seen-too false b c = refl

other-symbol : (seen : Bool) (t : Token) → cond seen (symbols (t ∷ [])) [] ≡ cond (seen && is_symbol t) (t ∷ []) []
other-symbol true t = one-symbol t
other-symbol false t = refl

module _ {blank : ℕ} (ts : List Token) (seen : Bool) (i to : ℕ) {now : Codes} {all : List Token} {first : Codes} (g : Yet blank (others seen (range ts i to)) now all first) where
  pub others_end : to ≤ i → Uses blank all first now
  unfolding others
  others_end h = yet_end (ap (λ (l : List Token). others seen l) (range_none ts i to h)) g

  module _ {t : Token} (low : i < to) (at : t ≡ peek ts i) where
    pub others_closed : t.kind ≡ 7 → Uses blank all first now
    others_closed e = yet_end (others_stop seen ts i to low (ap (λ (t : Token). t.kind) (sym at) ∙ e)) g

    pub others_next : {b seen' : Bool} {then : Codes} → (t.kind ≡ 7 → ⊥) → b ≡ is_symbol t → seen' ≡ (seen || b) → Uses blank (cond (seen && b) (t ∷ []) []) now then
        → Yet blank (others seen' (range ts (i + 1) to)) then all first
    others_next {b} {seen'} {then} goes e f u =
        let q : seen' ≡ cond seen true (is_symbol (peek ts i)) = f ∙ ap (λ (b : Bool). seen || b) (e ∙ ap is_symbol at) ∙ seen-too seen (is_symbol (peek ts i)) b in
        rw q (yet_on (others-on seen ts i to low (λ k. goes (ap (λ (t : Token). t.kind) at ∙ k))) g
        (uses_as (other-symbol seen (peek ts i)) (rw (e, at) at u)))

-- ---- the set that a token opens
abbrev pub set_behind : List Token → Token → ℕ → ℕ → List Token
set_behind ts t i to = cond (eqb t.kind 6) (others false (range ts i to)) []

-- the sets that the k tokens from an index on open, from the last to the first
unfoldable pub back : List Token → ℕ → ℕ → ℕ → List Token
back ts from to zero = []
back ts from to (suc k) = set_behind ts (peek ts (from + k)) (from + k + 1) to ++ back ts from to k

further-step : (ts : List Token) (i to : ℕ) → i < to → further (range ts i to) ≡ further (range ts (i + 1) to) ++ set_behind ts (peek ts i) (i + 1) to
unfolding further
further-step ts i to h = go (dec_lt i (length ts))
  where
    go : Dec (i < length ts) → further (range ts i to) ≡ further (range ts (i + 1) to) ++ set_behind ts (peek ts i) (i + 1) to
    go (yes q) = ap further (range_in ts i to h q)
    go (no q) =
        let past : peek ts i ≡ ended = get_or-eq_default ts ended {n = i} (omega arith) in
        ap further (range_past ts i to (omega arith))
        ∙ sym (ap (λ (t : Token). further (range ts (i + 1) to) ++ set_behind ts t (i + 1) to) past ∙ ap (λ (l : List Token). further l ++ []) (range_past ts (i + 1) to (omega arith)))

further_back : (ts : List Token) (from to k : ℕ) → from + k ≤ to → further (range ts from to) ≡ further (range ts (from + k) to) ++ back ts from to k
unfolding back
further_back ts from to zero h = let e : from ≡ from + 0 = omega arith in ap (λ (i : ℕ). further (range ts i to)) e ∙ sym (append-nil (further (range ts (from + 0) to)))
further_back ts from to (suc k) h =
    let e : from + k + 1 ≡ from + suc k = omega arith in
    let s : List Token = set_behind ts (peek ts (from + k)) (from + k + 1) to in
    further_back ts from to k (omega arith)
    ∙ ap (λ (l : List Token). l ++ back ts from to k) (further-step ts (from + k) to (omega arith) ∙ ap (λ (i : ℕ). further (range ts i to) ++ s) e)
    ∙ append_assoc (further (range ts (from + suc k) to)) s (back ts from to k)

further-all : (ts : List Token) (from to : ℕ) → further (range ts from to) ≡ back ts from to (to - from)
unfolding further back
further-all ts from to = go (dec_lt to from)
  where
    go : Dec (to < from) → further (range ts from to) ≡ back ts from to (to - from)
    go (yes q) = let e : to - from ≡ 0 = omega arith in ap further (range_none ts from to (omega arith)) ∙ ap (back ts from to) (sym e)
    go (no q) =
        let e : from + (to - from) ≡ to = omega arith in
        further_back ts from to (to - from) (omega arith) ∙ ap (λ (i : ℕ). further (range ts i to) ++ back ts from to (to - from)) e
        ∙ ap (λ (l : List Token). further l ++ back ts from to (to - from)) (range_none ts to to (omega arith))

-- the walk back has come to the index i
pub record Turning (blank : ℕ) (ts : List Token) (from to i : ℕ) (now : Codes) (all : List Token) (first : Codes) : Type 0 where
  pub yet : Yet blank (back ts from to (i - from)) now all first
  pub low : i ≤ to

pub turning_start : (blank : ℕ) (ts : List Token) (from to : ℕ) (s : Codes) → Turning blank ts from to to s (further (range ts from to)) s
turning_start blank ts from to s = record { yet = yet_start (sym (further-all ts from to)) refl; low = omega arith }

module _ (blank : ℕ) (ts : List Token) (from to i : ℕ) (now : Codes) (all : List Token) (first : Codes) (g : Turning blank ts from to i now all first) where
  pub turning_end : i ≤ from → Uses blank all first now
  unfolding back
  turning_end h = let e : i - from ≡ 0 = omega arith in yet_end (ap (λ (k : ℕ). back ts from to k) e) g.yet

  module _ (t : Token) (high : from < i) (at : t ≡ peek ts (i - 1)) (now' : Codes) where
    turning_on : Uses blank (set_behind ts t (i - 1 + 1) to) now now' → Turning blank ts from to (i - 1) now' all first
    unfolding back
    turning_on u =
        let e : i - from ≡ suc (i - 1 - from) = omega arith in
        let f : from + (i - 1 - from) ≡ i - 1 = omega arith in
        record {
          yet = yet_on
              (ap (back ts from to) e ∙ ap (λ (k : ℕ). set_behind ts (peek ts k) (k + 1) to ++ back ts from to (i - 1 - from)) f
              ∙ ap (λ (t : Token). set_behind ts t (i - 1 + 1) to ++ back ts from to (i - 1 - from)) (sym at)) g.yet u;
          low = omega (arith, g.low);
        }

    pub turning_open : t.kind ≡ 6 → (then : Codes) → Uses blank (others false (range ts (i - 1 + 1) to)) now then → now' ≡ then → Turning blank ts from to (i - 1) now' all first
    turning_open e then u f = turning_on (rw (f, eq-eqb t.kind 6 e) u)

    pub turning_past : (t.kind ≡ 6 → ⊥) → now' ≡ now → Turning blank ts from to (i - 1) now' all first
    turning_past e f = turning_on (rw (f, ne_eqb t.kind 6 e) (uses_none now))

-- ---- reads without a set: each symbol is the first choice of its tape
no_kind : (k : ℕ) (t : Token) (ts : List Token) → has_kind k (t ∷ ts) ≡ false → (eqb t.kind k ≡ false) × (has_kind k ts ≡ false)
unfolding has_kind
no_kind k t ts h = go (eqb t.kind k) h
  where
    go : (b : Bool) → elim b [ true ↦ true | false ↦ has_kind k ts ] ≡ false → (b ≡ false) × (has_kind k ts ≡ false)
    go true h = absurd (false≢true (sym h))
    go false h = (refl, h)

walked-outside : (t : Token) → eqb t.kind 6 ≡ false → walked outside t ≡ outside
unfolding walked
walked-outside t e = rw e (go (eqb t.kind 7))
  where
    go : (x : Bool) → cond x outside outside ≡ outside
    go true = refl
    go false = refl

firsts-plain : (ts : List Token) → has_kind 6 ts ≡ false → firsts outside ts ≡ symbols ts
unfolding firsts symbols takes
firsts-plain [] h = refl
firsts-plain (t ∷ ts) h =
    let p : (eqb t.kind 6 ≡ false) × (has_kind 6 ts ≡ false) = no_kind 6 t ts h in
    ap (λ (s : Walk). cond (is_symbol t) (t ∷ []) [] ++ firsts s ts) (walked-outside t p.0) ∙ ap (λ (l : List Token). cond (is_symbol t) (t ∷ []) [] ++ l) (firsts-plain ts p.1)

further-plain : (ts : List Token) → has_kind 6 ts ≡ false → further ts ≡ []
unfolding further
further-plain [] h = refl
further-plain (t ∷ ts) h =
    let p : (eqb t.kind 6 ≡ false) × (has_kind 6 ts ≡ false) = no_kind 6 t ts h in
    ap (λ (b : Bool). further ts ++ cond b (others false ts) []) p.0 ∙ append-nil (further ts) ∙ further-plain ts p.1

-- ---- one entry that is read, with `) = (` behind it, and one that is written, with a comma behind it
sign_no : (t : Token) (k : ℕ) → t.kind ≡ k → 3 ≤ k → k < 11 → is_symbol t ≡ false
unfolding is_symbol
sign_no t k e h g = rw (ne_eqb t.kind 0 (λ z. omega arith), ne_eqb t.kind 1 (λ z. omega arith), ne_eqb t.kind 2 (λ z. omega arith), ne_eqb t.kind 11 (λ z. omega arith))

takes_no : (s : Walk) (t : Token) → is_symbol t ≡ false → takes s t ≡ false
unfolding takes
takes_no Outside t e = e
takes_no Open t e = e
takes_no Behind t e = refl

-- past a token that is no symbol and no brace
module _ (ts : List Token) (i to k : ℕ) (low : i < to) (is : (peek ts i).kind ≡ k) (from : 3 ≤ k) (below : k < 11) (no-open : k ≡ 6 → ⊥) (no-close : k ≡ 7 → ⊥) where
  mute : is_symbol (peek ts i) ≡ false
  mute = sign_no (peek ts i) k is from below

  firsts_past : (s : Walk) → firsts s (range ts i to) ≡ firsts (walked s (peek ts i)) (range ts (i + 1) to)
  firsts_past s = firsts-on s ts i to low ∙ ap (λ (b : Bool). cond b (peek ts i ∷ []) [] ++ firsts (walked s (peek ts i)) (range ts (i + 1) to)) (takes_no s (peek ts i) mute)

  symbols_past : symbols (range ts i to) ≡ symbols (range ts (i + 1) to)
  symbols_past = symbols-on ts i to low ∙ ap (λ (l : List Token). l ++ symbols (range ts (i + 1) to)) (symbols_no (peek ts i) mute)

  others_past : others false (range ts i to) ≡ others false (range ts (i + 1) to)
  others_past = others-on false ts i to low (λ e. no-close (sym is ∙ e)) ∙ ap (λ (b : Bool). others b (range ts (i + 1) to)) mute

  further_past : further (range ts i to) ≡ further (range ts (i + 1) to)
  further_past = further-step ts i to low
      ∙ ap (λ (b : Bool). further (range ts (i + 1) to) ++ cond b (others false (range ts (i + 1) to)) []) (ne_eqb (peek ts i).kind 6 (λ e. no-open (sym is ∙ e)))
      ∙ append-nil (further (range ts (i + 1) to))

module _ (ts : List Token) (i to u v : ℕ) (four : to ≡ i + 4) (two : v ≡ u + 2)
    (first : (peek ts (i + 1)).kind ≡ 5) (second : (peek ts (i + 2)).kind ≡ 9) (third : (peek ts (i + 3)).kind ≡ 4) (comma : (peek ts (u + 1)).kind ≡ 8) where
  second' : (peek ts (i + 1 + 1)).kind ≡ 9
  second' = let z : i + 1 + 1 ≡ i + 2 = omega arith in ap (λ (k : ℕ). (peek ts k).kind) z ∙ second

  third' : (peek ts (i + 1 + 1 + 1)).kind ≡ 4
  third' = let z : i + 1 + 1 + 1 ≡ i + 3 = omega arith in ap (λ (k : ℕ). (peek ts k).kind) z ∙ third

  none_left : range ts (i + 1 + 1 + 1 + 1) to ≡ []
  none_left = range_none ts (i + 1 + 1 + 1 + 1) to (omega arith)

  no_firsts : (s : Walk) → firsts s (range ts (i + 1) to) ≡ []
  unfolding firsts
  no_firsts s =
      let a : Walk = walked s (peek ts (i + 1)) in
      let b : Walk = walked a (peek ts (i + 1 + 1)) in
      firsts_past ts (i + 1) to 5 (omega arith) first (omega arith) (omega arith) (λ z. omega arith) (λ z. omega arith) s
      ∙ firsts_past ts (i + 1 + 1) to 9 (omega arith) second' (omega arith) (omega arith) (λ z. omega arith) (λ z. omega arith) a
      ∙ firsts_past ts (i + 1 + 1 + 1) to 4 (omega arith) third' (omega arith) (omega arith) (λ z. omega arith) (λ z. omega arith) b
      ∙ ap (firsts (walked b (peek ts (i + 1 + 1 + 1)))) none_left

  no_others : others false (range ts (i + 1) to) ≡ []
  unfolding others
  no_others =
      others_past ts (i + 1) to 5 (omega arith) first (omega arith) (omega arith) (λ z. omega arith) (λ z. omega arith)
      ∙ others_past ts (i + 1 + 1) to 9 (omega arith) second' (omega arith) (omega arith) (λ z. omega arith) (λ z. omega arith)
      ∙ others_past ts (i + 1 + 1 + 1) to 4 (omega arith) third' (omega arith) (omega arith) (λ z. omega arith) (λ z. omega arith)
      ∙ ap (others false) none_left

  no_further : further (range ts (i + 1) to) ≡ []
  unfolding further
  no_further =
      further_past ts (i + 1) to 5 (omega arith) first (omega arith) (omega arith) (λ z. omega arith) (λ z. omega arith)
      ∙ further_past ts (i + 1 + 1) to 9 (omega arith) second' (omega arith) (omega arith) (λ z. omega arith) (λ z. omega arith)
      ∙ further_past ts (i + 1 + 1 + 1) to 4 (omega arith) third' (omega arith) (omega arith) (λ z. omega arith) (λ z. omega arith)
      ∙ ap further none_left

  single_first : firsts outside (range ts i to) ≡ symbols (peek ts i ∷ [])
  unfolding takes symbols
  single_first = firsts-on outside ts i to (omega arith) ∙ ap (λ (l : List Token). cond (takes outside (peek ts i)) (peek ts i ∷ []) [] ++ l) (no_firsts (walked outside (peek ts i)))

  single_further : further (range ts i to) ≡ []
  single_further = further-step ts i to (omega arith) ∙ ap (λ (l : List Token). l ++ cond (eqb (peek ts i).kind 6) (others false (range ts (i + 1) to)) []) no_further
      ∙ ap (λ (l : List Token). cond (eqb (peek ts i).kind 6) l []) no_others ∙ go (eqb (peek ts i).kind 6)
    where
      go : (b : Bool) → ◌≡◌ {A = List Token} (cond b [] []) []
      go true = refl
      go false = refl

  single_written : symbols (range ts u v) ≡ symbols (peek ts u ∷ [])
  unfolding symbols
  single_written = symbols-on ts u v (omega arith)
      ∙ ap (λ (l : List Token). symbols (peek ts u ∷ []) ++ l)
      (symbols_past ts (u + 1) v 8 (omega arith) comma (omega arith) (omega arith) (λ z. omega arith) (λ z. omega arith) ∙ ap symbols (range_none ts (u + 1 + 1) v (omega arith)))
      ∙ append-nil (symbols (peek ts u ∷ []))

  single_parts : part_symbols ts i to u v ≡ symbols (peek ts i ∷ []) ++ symbols (peek ts u ∷ [])
  single_parts =
      ap (λ (l : List Token). l ++ (symbols (range ts u v) ++ further (range ts i to))) single_first
      ∙ ap (λ (l : List Token). symbols (peek ts i ∷ []) ++ (l ++ further (range ts i to))) single_written
      ∙ ap (λ (l : List Token). symbols (peek ts i ∷ []) ++ (symbols (peek ts u ∷ []) ++ l)) single_further
      ∙ ap (λ (l : List Token). symbols (peek ts i ∷ []) ++ l) (append-nil (symbols (peek ts u ∷ [])))

all_true : (a b c d : Bool) → ((a && b) && (c && d)) ≡ true → (a ≡ true) × (b ≡ true) × (c ≡ true) × (d ≡ true)
all_true true true true true e = (refl, refl, refl, refl)
all_true true true true false e = absurd (false≢true e)
all_true true true false d e = absurd (false≢true e)
all_true true false c d e = absurd (false≢true e)
all_true false b c d e = absurd (false≢true e)

pub single_is : (ts : List Token) (i to u v : ℕ) → to ≡ i + 4 → v ≡ u + 2 → (a b c d : Bool) → a ≡ eqb (peek ts (i + 1)).kind 5 → b ≡ eqb (peek ts (i + 2)).kind 9 → c ≡ eqb (peek ts (i + 3)).kind 4
    → d ≡ eqb (peek ts (u + 1)).kind 8 → ((a && b) && (c && d)) ≡ true → part_symbols ts i to u v ≡ symbols (peek ts i ∷ []) ++ symbols (peek ts u ∷ [])
single_is ts i to u v four two a b c d e f g h all =
    let q : (a ≡ true) × (b ≡ true) × (c ≡ true) × (d ≡ true) = all_true a b c d all in
    single_parts ts i to u v four two
    (eqb-true (peek ts (i + 1)).kind 5 (sym e ∙ q.0)) (eqb-true (peek ts (i + 2)).kind 9 (sym f ∙ q.1)) (eqb-true (peek ts (i + 3)).kind 4 (sym g ∙ q.2)) (eqb-true (peek ts (u + 1)).kind 8 (sym h ∙ q.3))

pub single-noted : {blank : ℕ} (ts : List Token) (from to u v : ℕ) {s p r : Codes} {a b : Bool} → part_symbols ts from to u v ≡ symbols (peek ts from ∷ []) ++ symbols (peek ts u ∷ [])
    → (t w : Token) → t ≡ peek ts from → w ≡ peek ts u → a ≡ is_symbol t → b ≡ is_symbol w → Uses blank (cond a (t ∷ []) []) s p → Uses blank (cond b (w ∷ []) []) p r
    → Uses blank (part_symbols ts from to u v) s r
single-noted ts from to u v e t w f g x y one two = uses_as
    (e ∙ ap (λ (x : Token). symbols (x ∷ []) ++ symbols (peek ts u ∷ [])) (sym f) ∙ ap (λ (x : Token). symbols (t ∷ []) ++ symbols (x ∷ [])) (sym g))
    (uses_on (symbol-noted t x one) (symbol-noted w y two))

-- ---- what is read and written: three parts, one on top of the other; without a set two
module _ {blank : ℕ} (ts : List Token) (from to u v : ℕ) {a b : Codes} where
  pub parts-all : {p q : Codes} → Uses blank (firsts outside (range ts from to)) a p → Uses blank (symbols (range ts u v)) p q → Uses blank (further (range ts from to)) q b
      → Uses blank (part_symbols ts from to u v) a b
  parts-all x y z = uses_on x (uses_on y z)

  pub plain-all : {p : Codes} (has : Bool) → has ≡ has_kind 6 (range ts from to) → has ≡ false → Uses blank (symbols (range ts from to)) a p → Uses blank (symbols (range ts u v)) p b
      → Uses blank (part_symbols ts from to u v) a b
  plain-all has test none x y =
      let h : has_kind 6 (range ts from to) ≡ false = sym test ∙ none in
      uses_as
      (ap (λ (l : List Token). l ++ (symbols (range ts u v) ++ further (range ts from to))) (firsts-plain (range ts from to) h)
      ∙ ap (λ (l : List Token). symbols (range ts from to) ++ (symbols (range ts u v) ++ l)) (further-plain (range ts from to) h)
      ∙ ap (λ (l : List Token). symbols (range ts from to) ++ l) (append-nil (symbols (range ts u v))))
      (uses_on x y)

pub kind_at : (t u : Token) (k : ℕ) → t ≡ u → eqb t.kind k ≡ eqb u.kind k
kind_at t u k e = ap (λ (t : Token). eqb t.kind k) e

-- ---- a rule: what it reads and writes
module _ (ts : List Token) (e : ℕ) (t : Token) (at : t ≡ peek ts e) where
  rule-kind : (entry_at ts e).first.kind ≡ t.kind
  rule-kind = ap (λ (t : Token). t.kind) (sym at)

  pub rule-none : {blank : ℕ} (s : Codes) → (t.kind ≡ 27 → ⊥) → Uses blank (rule_symbols ts (entry_at ts e)) s s
  unfolding rule_symbols
  rule-none s h = uses_as (rw (rule-kind, ne_eqb t.kind 27 h)) (uses_none s)

  pub rule-all : {blank : ℕ} {s r : Codes} → t.kind ≡ 27 → (q : Token) → q ≡ peek ts (e + 3) → Uses blank (part_symbols ts (e + 4) q.start q.end q.value) s r → Uses blank (rule_symbols ts (entry_at ts e)) s r
  unfolding rule_symbols
  rule-all is q comma u = uses_as (rw (rule-kind, eq-eqb t.kind 27 is, ← comma)) u

-- ---- all rules: the walk has come to the line at the index i
module _ {blank : ℕ} (ts : List Token) (i : ℕ) {now : Codes} {all : List Token} {first : Codes} (g : Yet blank (rules_symbols ts (entries_at ts i)) now all first) where
  pub rules-end : length ts ≤ i → Uses blank all first now
  unfolding rules_symbols
  rules-end h = yet_end (ap (λ (es : List Entry). rules_symbols ts es) (entries-end ts i h)) g

  pub rules-next : {t : Token} {j : ℕ} {then : Codes} → i < length ts → t ≡ peek ts i → j ≡ i + 1 + behind i t → Uses blank (rule_symbols ts (entry_at ts i)) now then
      → Yet blank (rules_symbols ts (entries_at ts j)) then all first
  unfolding rules_symbols
  rules-next low at f u = rw (f, at) (yet_on (ap (rules_symbols ts) (entries-step ts i low)) g u)
