-- Laws of the pass over rules.
use mathlib.Core.Path.{◌≡◌, refl, sym, ap, subst, ◌∙◌}
use mathlib.Core.Bool.{Bool, true, false, cond, not, false≢true}
use mathlib.Core.List.{List, [], ◌∷◌}
use Prim.Native.Nat.{ℕ, suc, ◌+◌, ◌-◌, ◌*◌, ◌≤◌, ◌<◌, ◌^◌, min}
use native.Mathlib.Omega.{arith}
use native.Mathlib.Nat.{mul-le-mul, min-le_right}
use native.Mathlib.Numerals.{add-one}
use native.Mathlib.Decide.{dec_lt}
use mir.Syntax.{w64}
use mir.Val.{Fits}
use borrow.Author.Tests.{le-leb, lt-leb, eq-eqb, ne_eqb, leb-true}
use lib.Dec.{leb, eqb}
use lib.ListN.{length, take, drop, drop_of_length-le}
use lib.Seq.{get_or-drop, drop-cons, drop-drop, take-nil}
use Rattle.diag.specs.declared.Span.{Span}
use Rattle.diag.specs.declared.Diagnostic.{Diagnostic}
use Rattle.diag.specs.declared.log.Log.{Log}
use Rattle.diag.specs.Log.{error}
use Rattle.diag.specs.Appends.{Appends}
use Rattle.diag.proofs.Appending.{appends_as}
use Rattle.tokens.specs.declared.Token.{Token}
use Rattle.assembler.specs.declared.sets.Sets.{Sets}
use Rattle.assembler.specs.declared.rules.Tally.{Tally}
use Rattle.assembler.specs.declared.rules.Verdict.{Verdict}
use Rattle.assembler.specs.declared.rules.Verdict.TheVariants.{Other, WrongArity, TooMany, Expands}
use Rattle.parser.specs.Lines.{line_length}
use Rattle.parser.specs.Row.{peek, ended}
use Rattle.parser.specs.Views.{is_symbol}
use Rattle.assembler.specs.Rows.{rows, place_of}
use Rattle.assembler.specs.Entries.{Entry, entry_at, has_kind, behind, entries}
use Rattle.assembler.specs.Feeds.{Fed}
use Rattle.assembler.specs.Rules.{counted, combinations_from, combinations, same_arity, read_part, verdict, after, rule_error, rule_errors, no_rules}
use Rattle.assembler.proofs.Rows.{length-rows, fed_here}
use Rattle.assembler.proofs.Passes.{at_most_one, Passing, passing_start, passing_step, passing_end, passing_room}

-- ---- one token of the read sets
pub product_fits : (p s : ℕ) → p ≤ 262145 → s < 2 ^ 32 → Fits w64 (p * s)
product_fits p s h g =
    let le : s ≤ 2 ^ 32 = omega arith in
    let b : p * s ≤ 262145 * 2 ^ 32 = mul-le-mul h le in
    record { fits = omega arith }

module _ (s : Sets) (t : Token) where
  pub counted_opened : t.kind ≡ 6 → record { product = s.product; size = 0 } ≡ counted s t
  unfolding counted
  counted_opened h = rw (eq-eqb t.kind 6 h)

  module _ (a : t.kind ≡ 6 → ⊥) where
    pub counted_closed : t.kind ≡ 7 → (n : ℕ) → n ≡ min (s.product * s.size) 262145 → record { product = n; size = s.size } ≡ counted s t
    unfolding counted
    counted_closed h n e = rw (ne_eqb t.kind 6 a, eq-eqb t.kind 7 h, ← e)

    module _ (b : t.kind ≡ 7 → ⊥) (x : Bool) (symbol : x ≡ is_symbol t) where
      pub counted-member : x ≡ true → record { product = s.product; size = s.size + 1 } ≡ counted s t
      unfolding counted
      counted-member h = rw (ne_eqb t.kind 6 a, ne_eqb t.kind 7 b, ← symbol, h)

      pub counted-other : x ≡ false → s ≡ counted s t
      unfolding counted
      counted-other h = rw (ne_eqb t.kind 6 a, ne_eqb t.kind 7 b, ← symbol, h)

  pub counted-comma : t.kind ≡ 8 → s ≡ counted s t
  unfolding counted is_symbol
  counted-comma h =
      rw (ne_eqb t.kind 6 (λ e. omega arith), ne_eqb t.kind 7 (λ e. omega arith), ne_eqb t.kind 0 (λ e. omega arith), ne_eqb t.kind 1 (λ e. omega arith), ne_eqb t.kind 2 (λ e. omega arith), ne_eqb t.kind 11 (λ e. omega arith))

  no_brace : (k : ℕ) → 5 < k → k < 8 → is_symbol t ≡ true → t.kind ≡ k → ⊥
  unfolding is_symbol
  no_brace k l h e q =
      let z : false ≡ true = rw (ne_eqb t.kind 0 (λ e. omega arith), ne_eqb t.kind 1 (λ e. omega arith), ne_eqb t.kind 2 (λ e. omega arith), ne_eqb t.kind 11 (λ e. omega arith)) at e in
      let o : ◌≡◌ {A = ℕ} 0 1 = cc in omega arith

  pub counted-symbol : (x : Bool) → x ≡ is_symbol t → x ≡ true → record { product = s.product; size = s.size + 1 } ≡ counted s t
  counted-symbol x symbol h = counted-member (no_brace 6 (omega arith) (omega arith) (sym symbol ∙ h)) (no_brace 7 (omega arith) (omega arith) (sym symbol ∙ h)) x symbol h

  counted_low : s.product ≤ 262145 → (counted s t).product ≤ 262145
  unfolding counted
  counted_low h = go (eqb t.kind 6) (eqb t.kind 7) (is_symbol t)
    where
      go : (x y z : Bool) → (cond x (record { product = s.product; size = 0 }) (cond y (record { product = min (s.product * s.size) 262145; size = s.size }) (cond z (record { product = s.product; size = s.size + 1 }) s))).product ≤ 262145
      go true y z = h
      go false true z = min-le_right (s.product * s.size) 262145
      go false false true = h
      go false false false = h

  counted-size : (counted s t).size ≤ s.size + 1
  unfolding counted
  counted-size = go (eqb t.kind 6) (eqb t.kind 7) (is_symbol t)
    where
      go : (x y z : Bool) → (cond x (record { product = s.product; size = 0 }) (cond y (record { product = min (s.product * s.size) 262145; size = s.size }) (cond z (record { product = s.product; size = s.size + 1 }) s))).size ≤ s.size + 1
      go true y z = omega arith
      go false true z = omega arith
      go false false true = omega arith
      go false false false = omega arith

-- ---- the product
combinations_low_from : (s : Sets) (ts : List Token) → s.product ≤ 262145 → combinations_from s ts ≤ 262145
unfolding combinations_from
combinations_low_from s [] h = h
combinations_low_from s (t ∷ ts) h = combinations_low_from (counted s t) ts (counted_low s t h)

pub combinations_low : (ts : List Token) → combinations ts ≤ 262145
unfolding combinations
combinations_low ts = combinations_low_from (record { product = 1; size = 0 }) ts (omega arith)

-- without a `}` nothing is multiplied
counted-kept : (s : Sets) (t : Token) → eqb t.kind 7 ≡ false → (counted s t).product ≡ s.product
unfolding counted
counted-kept s t e = rw e (go (eqb t.kind 6) (is_symbol t))
  where
    go : (x z : Bool) → (cond x (record { product = s.product; size = 0 }) (cond z (record { product = s.product; size = s.size + 1 }) s)).product ≡ s.product
    go true z = refl
    go false true = refl
    go false false = refl

combinations-kept : (s : Sets) (ts : List Token) → has_kind 7 ts ≡ false → combinations_from s ts ≡ s.product
unfolding combinations_from has_kind
combinations-kept s [] h = refl
combinations-kept s (t ∷ ts) h = go (eqb t.kind 7) refl h (combinations-kept (counted s t) ts)
  where
    go : (b : Bool) → eqb t.kind 7 ≡ b → elim b [ true ↦ true | false ↦ has_kind 7 ts ] ≡ false → (has_kind 7 ts ≡ false → combinations_from (counted s t) ts ≡ (counted s t).product)
        → combinations_from (counted s t) ts ≡ s.product
    go true e h rest = absurd (false≢true (sym h))
    go false e h rest = rest h ∙ counted-kept s t e

-- four tokens of which none is a `}`
pub not_kind : (t : Token) (k : ℕ) → not (eqb t.kind k) ≡ true → t.kind ≡ k → ⊥
not_kind t k h e = let z : not (eqb t.kind k) ≡ false = rw (eq-eqb t.kind k e) in false≢true (sym z ∙ h)

kind-not : (k n : ℕ) (ts : List Token) (i : ℕ) → ((peek ts i).kind ≡ k → ⊥) → has_kind k (take n (drop (suc i) ts)) ≡ false → has_kind k (take (suc n) (drop i ts)) ≡ false
unfolding has_kind
kind-not k n ts i h rest = go (dec_lt i (length ts))
  where
    go : Dec (i < length ts) → has_kind k (take (suc n) (drop i ts)) ≡ false
    go (yes l) = ap (λ (l : List Token). has_kind k (take (suc n) l)) (drop-cons ts i ended l) ∙ ap (λ (b : Bool). elim b [ true ↦ true | false ↦ has_kind k (take n (drop (suc i) ts)) ]) (ne_eqb (peek ts i).kind k h) ∙ rest
    go (no l) = ap (λ (l : List Token). has_kind k (take (suc n) l)) (drop_of_length-le ts {i = i} (omega arith))

module _ (ts : List Token) (i : ℕ) (a b c d : Token) (at : a ≡ peek ts i) (bt : b ≡ peek ts (i + 1)) (ct : c ≡ peek ts (i + 2)) (dt : d ≡ peek ts (i + 3)) where
  pub four_lack : (a.kind ≡ 7 → ⊥) → (b.kind ≡ 7 → ⊥) → (c.kind ≡ 7 → ⊥) → (d.kind ≡ 7 → ⊥) → has_kind 7 (take 4 (drop i ts)) ≡ false
  unfolding has_kind
  four_lack f g h l =
      let kind : (t : Token) (j k : ℕ) → t ≡ peek ts j → j ≡ k → (t.kind ≡ 7 → ⊥) → (peek ts k).kind ≡ 7 → ⊥ = λ t j k e q n z. n (ap (λ (t : Token). t.kind) e ∙ ap (λ (m : ℕ). (peek ts m).kind) q ∙ z) in
      kind-not 7 3 ts i (kind a i i at refl f) (kind-not 7 2 ts (suc i) (kind b (i + 1) (suc i) bt (omega arith) g)
      (kind-not 7 1 ts (suc (suc i)) (kind c (i + 2) (suc (suc i)) ct (omega arith) h) (kind-not 7 0 ts (suc (suc (suc i))) (kind d (i + 3) (suc (suc (suc i))) dt (omega arith) l) refl)))

pub plain_here : (ts : List Token) (from to : ℕ) (b : Bool) → to - 4 ≡ from → 4 ≤ to → (b ≡ true → has_kind 7 (take 4 (drop from ts)) ≡ false) → b ≡ true → has_kind 7 (take (to - from) (drop from ts)) ≡ false
plain_here ts from to b e h f y = let q : to - from ≡ 4 = omega arith in ap (λ (n : ℕ). has_kind 7 (take n (drop from ts))) q ∙ f y

pub combinations-none : (b : Bool) (ts : List Token) → b ≡ has_kind 7 ts → b ≡ false → 1 ≡ combinations ts
unfolding combinations
combinations-none b ts e f = sym (combinations-kept (record { product = 1; size = 0 }) ts (sym e ∙ f))

pub combinations-plain : (b : Bool) (ts : List Token) → (b ≡ true → has_kind 7 ts ≡ false) → b ≡ true → 1 ≡ combinations ts
combinations-plain b ts f y = combinations-none false ts (sym (f y)) refl

-- the walk has come to the index i
pub record Counting (count : ℕ) (work : List ℕ) (from to : ℕ) (s : Sets) (i : ℕ) : Type 0 where
  pub whole : combinations_from s (take (to - i) (drop i (rows count work))) ≡ combinations (take (to - from) (drop from (rows count work)))
  pub low : s.product ≤ 262145
  pub size : s.size ≤ i

pub counting_start : (count : ℕ) (work : List ℕ) (from to : ℕ) → Counting count work from to (record { product = 1; size = 0 }) from
unfolding combinations
counting_start count work from to = record { whole = refl; low = omega arith; size = omega arith }

module _ (count : ℕ) (work : List ℕ) (from to : ℕ) (s : Sets) (i : ℕ) (c : Counting count work from to s i) (room : 4 * count ≤ length work) where
  pub counting_on : (t : Token) (s' : Sets) → i < to → i < count → t ≡ peek (rows count work) i → s' ≡ counted s t → Counting count work from to s' (i + 1)
  unfolding combinations_from
  counting_on t s' h g e q =
      let ts : List Token = rows count work in
      let k : ℕ = to - suc i in
      let more : to - i ≡ suc k = omega arith in
      let less : to - (i + 1) ≡ k = omega arith in
      let here : take (to - i) (drop i ts) ≡ peek ts i ∷ take k (drop (suc i) ts) =
      ap (λ (n : ℕ). take n (drop i ts)) more ∙ ap (take (suc k)) (drop-cons ts i ended (omega (arith, length-rows count work room))) in
      let q' : s' ≡ counted s (peek ts i) = q ∙ ap (counted s) e in
      record {
        whole =
            ap (λ (n : ℕ). combinations_from s' (take n (drop (i + 1) ts))) less ∙ ap (λ (n : ℕ). combinations_from s' (take k (drop n ts))) (add-one i)
            ∙ ap (λ (x : Sets). combinations_from x (take k (drop (suc i) ts))) q' ∙ ap (combinations_from s) (sym here) ∙ c.whole;
        low = subst (λ (x : Sets). x.product ≤ 262145) (sym q) (counted_low s t c.low);
        size = omega (arith, ap (λ (x : Sets). x.size) q, counted-size s t, c.size);
      }

  pub counting_past : count ≤ i → s.product ≡ combinations (take (to - from) (drop from (rows count work)))
  unfolding combinations_from
  counting_past h =
      sym (ap (λ (r : List Token). combinations_from s (take (to - i) r)) (drop_of_length-le (rows count work) {i = i} (omega (arith, length-rows count work room)))
      ∙ ap (combinations_from s) (take-nil {A = Token} (to - i))) ∙ c.whole

  pub counting_end : to ≤ i → s.product ≡ combinations (take (to - from) (drop from (rows count work)))
  unfolding combinations_from
  counting_end h = let none : to - i ≡ 0 = omega arith in sym (ap (λ (n : ℕ). combinations_from s (take n (drop i (rows count work)))) none) ∙ c.whole

  pub counting_least : (n : ℕ) → n ≡ min to count → n ≤ i → s.product ≡ combinations (take (to - from) (drop from (rows count work)))
  counting_least n e h = go (dec_lt i to)
    where
      go : Dec (i < to) → s.product ≡ combinations (take (to - from) (drop from (rows count work)))
      go (yes l) = counting_past (omega (arith, e))
      go (no l) = counting_end (omega arith)

pub counting_below : (to count n i : ℕ) → n ≡ min to count → i < n → (i < to) × (i < count)
counting_below to count n i e h = (omega (arith, e), omega (arith, e))

-- ---- what becomes of a line
pub arity_same : (p : Token) → p.end ≡ p.start → eqb p.value p.start ≡ same_arity p
unfolding same_arity
arity_same p h = rw (eq-eqb p.end p.start h)

pub arity_other : (p : Token) → (p.end ≡ p.start → ⊥) → false ≡ same_arity p
unfolding same_arity
arity_other p h = rw (ne_eqb p.end p.start h)

pub total_fits : (n m : ℕ) (ts : List Token) → n ≤ 262144 → m ≡ combinations ts → Fits w64 (n + m)
total_fits n m ts h e = record { fits = omega (arith, combinations_low ts) }

module _ (ts : List Token) (i n : ℕ) (t : Token) (at : t ≡ peek ts i) where
  pub verdict-other : (t.kind ≡ 27 → ⊥) → Other ≡ verdict n (entry_at ts i)
  unfolding verdict
  verdict-other h = rw (← at, ne_eqb t.kind 27 h)

  module _ (rule : t.kind ≡ 27) (p : Token) (first : p ≡ peek ts (i + 1)) (same : Bool) (arity : same ≡ same_arity p) where
    opens : peek (drop (suc i) ts) 0 ≡ p
    opens = let e : suc i + 0 ≡ i + 1 = omega arith in get_or-drop (suc i) ts 0 ended ∙ ap (peek ts) e ∙ sym first

    pub verdict_arity : same ≡ false → WrongArity ≡ verdict n (entry_at ts i)
    unfolding verdict
    verdict_arity h = rw (← at, eq-eqb t.kind 27 rule, opens, ← arity, h)

    -- what the rule reads
    module _ (o : Token) (comma : o ≡ peek ts (i + 3)) (to : ℕ) (next : to ≡ o.start) (m : ℕ) (product : m ≡ combinations (take (to - (i + 4)) (drop (i + 4) ts))) where
      product_is : combinations (read_part (entry_at ts i)) ≡ m
      unfolding read_part
      product_is =
          let e : suc i + 2 ≡ i + 3 = omega arith in
          let z : suc i + 3 ≡ i + 4 = omega arith in
          let place : (peek (drop (suc i) ts) 2).start ≡ to = ap (λ (t : Token). t.start) (get_or-drop (suc i) ts 2 ended ∙ ap (peek ts) e ∙ sym comma) ∙ sym next in
          sym (product ∙ sym (ap (λ (n : ℕ). combinations (take (n - (i + 4)) (drop 3 (drop (suc i) ts)))) place
          ∙ ap (λ (r : List Token). combinations (take (to - (i + 4)) r)) (drop-drop 3 (suc i) ts ∙ ap (λ (k : ℕ). drop k ts) z)))

      pub verdict_expands : same ≡ true → n + m ≤ 262144 → Expands (n + m) ≡ verdict n (entry_at ts i)
      unfolding verdict
      verdict_expands h g = rw (← at, eq-eqb t.kind 27 rule, opens, ← arity, h, product_is, le-leb (n + m) 262144 g)

      pub verdict_many : same ≡ true → 262144 < n + m → TooMany ≡ verdict n (entry_at ts i)
      unfolding verdict
      verdict_many h g = rw (← at, eq-eqb t.kind 27 rule, opens, ← arity, h, product_is, lt-leb (n + m) 262144 g)

-- ---- the rules so far
module _ (s : Tally) (v : Verdict) where
  pub after-other : v ≡ Other → s ≡ after s v
  unfolding after
  after-other e = rw e

  pub after_arity : v ≡ WrongArity → s ≡ after s v
  unfolding after
  after_arity e = rw e

  pub after_many : v ≡ TooMany → record { rules = s.rules; cut = true } ≡ after s v
  unfolding after
  after_many e = rw e

  pub after_expands : (n : ℕ) → v ≡ Expands n → record { rules = n; cut = s.cut } ≡ after s v
  unfolding after
  after_expands n e = rw e

-- ---- one line's diagnostic
module _ (v : Verdict) (cut : Bool) (p : Span) where
  pub rule-other : v ≡ Other → [] ≡ rule_error v cut p
  unfolding rule_error
  rule-other e = rw e

  pub rule_expands : (n : ℕ) → v ≡ Expands n → [] ≡ rule_error v cut p
  unfolding rule_error
  rule_expands n e = rw e

  pub rule_cut : v ≡ TooMany → cut ≡ true → [] ≡ rule_error v cut p
  unfolding rule_error
  rule_cut e h = rw (e, h)

  module _ (d : Diagnostic) where
    pub rule_arity : v ≡ WrongArity → d ≡ error 10 p → d ∷ [] ≡ rule_error v cut p
    unfolding rule_error
    rule_arity e q = rw e (ap (λ (d : Diagnostic). d ∷ []) q)

    pub rule_many : v ≡ TooMany → cut ≡ false → d ≡ error 9 p → d ∷ [] ≡ rule_error v cut p
    unfolding rule_error
    rule_many e h q = rw (e, h) (ap (λ (d : Diagnostic). d ∷ []) q)

pub one-rule : (v : Verdict) (cut : Bool) (p : Span) → length (rule_error v cut p) ≤ 1
unfolding rule_error
one-rule Other cut p = omega arith
one-rule WrongArity cut p = omega arith
one-rule TooMany cut p = at_most_one cut [] (error 9 p ∷ []) (omega arith) (omega arith)
one-rule (Expands n) cut p = omega arith

-- no more than the limit
pub verdict-within : (n m : ℕ) (e : Entry) → verdict n e ≡ Expands m → m ≤ 262144
unfolding verdict
verdict-within n m e h = go (eqb e.first.kind 27) (same_arity (peek e.rest 0)) (leb (n + combinations (read_part e)) 262144) refl h
  where
    total : ℕ
    total = n + combinations (read_part e)

    go : (x y z : Bool) → leb total 262144 ≡ z → cond x (cond y (cond z (Expands total) TooMany) WrongArity) Other ≡ Expands m → m ≤ 262144
    go true true true f h = let t : total ≡ m = cc in omega (arith, leb-true total 262144 f)
    go true true false f h = let z : ◌≡◌ {A = ℕ} 0 1 = cc in absurd (omega arith)
    go true false z f h = let z : ◌≡◌ {A = ℕ} 0 1 = cc in absurd (omega arith)
    go false y z f h = let z : ◌≡◌ {A = ℕ} 0 1 = cc in absurd (omega arith)

pub after-within : (s : Tally) (v : Verdict) → s.rules ≤ 262144 → ((m : ℕ) → v ≡ Expands m → m ≤ 262144) → (after s v).rules ≤ 262144
unfolding after
after-within s Other h g = h
after-within s WrongArity h g = h
after-within s TooMany h g = h
after-within s (Expands n) h g = g n refl

-- ---- all lines: the pass has come to the line at the index i
pub record Tallying (count : ℕ) (work : List ℕ) (all : List Diagnostic) (l₀ : Log) (s : Tally) (l : Log) (i : ℕ) : Type 0 where
  pub passing : Passing (rows count work) (rule_errors s) all l₀ l i
  pub within : s.rules ≤ 262144

pub tallying_start : (count : ℕ) (work : List ℕ) (l : Log) → Fed (rows count work)
    → Tallying count work (rule_errors no_rules (entries (rows count work))) l no_rules l 0
unfolding entries
tallying_start count work l fed = record { passing = passing_start (rows count work) (rule_errors no_rules) l fed; within = omega arith }

module _ (count : ℕ) (work : List ℕ) (all : List Diagnostic) (l₀ : Log) (s : Tally) (l : Log) (i : ℕ)
    (p : Tallying count work all l₀ s l i) (room : 4 * count ≤ length work) where
  -- the line's first token says where it ends
  pub tallying_fed : (t : Token) → i < count → t ≡ peek (rows count work) i → behind i t ≡ line_length (drop i (rows count work))
  tallying_fed t h e = fed_here (rows count work) i p.passing.fed (omega (arith, length-rows count work room)) t e

  pub tallying_room : i < count → l₀.count + count < 2 ^ 64 → l.count + 1 < 2 ^ 64
  tallying_room h g = passing_room (rows count work) all l₀ l i (rule_errors s) count p.passing h g

  pub tallying_on : (s' : Tally) (l' : Log) (j : ℕ) (t : Token) (v : Verdict) (q : Span) → i < count → t ≡ peek (rows count work) i
      → v ≡ verdict s.rules (entry_at (rows count work) i) → q ≡ place_of t → Appends l l' (rule_error v s.cut q) → s' ≡ after s v
      → j ≡ i + 1 + behind i t → Tallying count work all l₀ s' l' j
  unfolding rule_errors
  tallying_on s' l' j t v q h et ev eq ew es ej =
      let ts : List Token = rows count work in
      let many : length ts ≡ count = length-rows count work room in
      let here : i < length ts = omega arith in
      let e : Entry = entry_at ts i in
      let next : i + 1 + behind i (peek ts i) ≡ j = ap (λ (t : Token). i + 1 + behind i t) (sym et) ∙ sym ej in
      let v' : Verdict = verdict s.rules e in
      let ds : List Diagnostic = rule_error v' s.cut (place_of (peek ts i)) in
      let eq' : q ≡ place_of (peek ts i) = eq ∙ ap place_of et in
      let ew' : Appends l l' ds =
      appends_as l l' (rule_error v s.cut q) ds ew (ap (λ (v : Verdict). rule_error v s.cut q) ev ∙ ap (λ (q : Span). rule_error v' s.cut q) eq') in
      let es' : after s v' ≡ s' = ap (after s) (sym ev) ∙ sym es in
      record {
        passing = subst (λ (x : Tally). Passing ts (rule_errors x) all l₀ l' j) es'
            (subst (λ (j : ℕ). Passing ts (rule_errors (after s v')) all l₀ l' j) next
            (passing_step ts all l₀ l i (rule_errors s) (rule_errors (after s v')) ds l' p.passing here (λ es. refl) (one-rule v' s.cut (place_of (peek ts i))) ew'));
        within = subst (λ (x : Tally). x.rules ≤ 262144) es' (after-within s v' p.within (λ m h. verdict-within s.rules m e h));
      }

  pub tallying_end : count ≤ i → Appends l₀ l all
  unfolding rule_errors
  tallying_end h = passing_end (rows count work) all l₀ l i (rule_errors s) p.passing (omega (arith, length-rows count work room)) refl
