-- What a rule costs: tokens that weigh at least as much as its read sets, symbols written and moves ask for.
use Prim.Native.Nat.{ℕ, zero, suc, ◌+◌, ◌*◌, ◌≤◌}
use native.Mathlib.Omega.{arith}
use mathlib.Core.Bool.{Bool, true, false}
use mathlib.Core.List.{List, [], ◌∷◌}
use Rattle.std.specs.Prelude.{Option, None, Some}
use mathlib.Core.Path.{◌≡◌, subst}
use lib.Dec.{eqb}
use lib.ListN.{length}
use Rattle.chars.specs.Utf8.{sizes}
use Rattle.lexer.specs.Text.{same}
use Rattle.lexer.specs.Tokens.{TokenKind, word, Token}
use Rattle.lexer.proofs.Keywords.{same_true}
use Rattle.language.specs.Parser.{Result, ok, fail, Parser, then, ◌>>=◌, give, unexpected, is_sign, goes_on, taken, branch, go_on, one, expect, opened, at_most, entries, single, tuple}
use Rattle.language.specs.Lines.{RawTransition, meaning_of, word_in, Keyword, delta_word, keywords, state_in, symbol_in, write_in, direction_in, not_direction, state, symbol, direction, read_entry, write_entry, transition}
use Rattle.language.proofs.Every.{by_test, Every, Maybe}
use Rattle.longest.proofs.Weights.{weight, weigh, weight_least}

-- ---- costs

-- a list of one entry may stand alone, any other takes two tokens for each entry and one more
unfoldable pub over : ℕ → ℕ
over s = elim (eqb s 1) [ true ↦ 0 | false ↦ s ]

pub over_le : (s : ℕ) → over s ≤ s
unfolding over
over_le s = by_test (eqb s 1) (λ e. rw (e, over) (omega arith)) (λ e. rw (e, over) (omega arith))

-- entries that cost c, each with its comma or closing sign
abbrev pub sum_of : {A : Type 0} → (A → ℕ) → List A → ℕ
sum_of c [] = 0
sum_of c (a ∷ l) = suc (c a) + sum_of c l

pub sum_ones : {A : Type 0} (l : List A) → sum_of (λ a. 1) l ≡ 2 * length l
sum_ones [] = omega arith
sum_ones (a ∷ l) = omega (arith, sum_ones l)

-- half of what the sets of a list of read sets take
abbrev pub overs : {A : Type 0} → List (List A) → ℕ
overs [] = 0
overs (s ∷ l) = suc (over (length s)) + overs l

abbrev pub reads_over : {A : Type 0} → List (List A) → ℕ
reads_over [] = 0
reads_over (s ∷ []) = over (length s)
reads_over (s ∷ t ∷ l) = overs (s ∷ t ∷ l)

sum_sets : {A : Type 0} (l : List (List A)) → sum_of (λ s. suc (2 * over (length s))) l ≡ 2 * overs l
sum_sets [] = omega arith
sum_sets (s ∷ l) = omega (arith, sum_sets l)

reads_overs : {A : Type 0} (l : List (List A)) → reads_over l ≤ overs l
reads_overs [] = omega arith
reads_overs (s ∷ []) = omega arith
reads_overs (s ∷ t ∷ l) = omega arith

-- half of what a rule takes beyond the fifteen bytes of the shortest line
unfoldable pub spare : {P : Type 0} → RawTransition P → ℕ
unfolding over
spare r = reads_over (r.read) + over (length (r.write)) + over (length (r.dir))

-- ---- parsers

module _ {P : Type 0} where
  abbrev pub Spent : {A : Type 0} → (A → ℕ) → ℕ → Result P A → Type 0
  Spent cost n (ok a ts) = weigh ts + cost a ≤ n
  Spent cost n (fail m p) = Unit {0}

  -- a value costs at most what its tokens weigh and m, which was paid before
  pub record Spends {A : Type 0} (m : ℕ) (cost : A → ℕ) (p : Parser P A) : Type 0 where
    pub spends : (ts : List (Token P)) → Spent cost (weigh ts + m) (p ts)

  spent_more : {A : Type 0} (cost : A → ℕ) (i j : ℕ) (r : Result P A) → i ≤ j → Spent cost i r → Spent cost j r
  spent_more cost i j (ok a ts) h s = omega arith
  spent_more cost i j (fail m p) h s = tt

  spent_less : {A : Type 0} (cost fine : A → ℕ) (n j : ℕ) (r : Result P A) → ((a : A) → fine a ≤ cost a + j) → Spent cost n r → Spent fine (n + j) r
  spent_less cost fine n j (ok a ts) h s = omega (arith, h a)
  spent_less cost fine n j (fail m p) h s = tt

  -- at another cost
  pub costs : {A : Type 0} {cost : A → ℕ} {p : Parser P A} (fine : A → ℕ) (j : ℕ) → ((a : A) → fine a ≤ cost a + j) → Spends 0 cost p → Spends j fine p
  costs {cost = cost} {p = p} fine j h e = record { spends = λ ts. spent_more fine (weigh ts + 0 + j) (weigh ts + j) (p ts) (omega arith) (spent_less cost fine (weigh ts + 0) j (p ts) h (e.spends ts)) }

  then_spends : {A B : Type 0} (m : ℕ) (cost : A → ℕ) (fine : B → ℕ) (n : ℕ) (r : Result P A) (k : A → Parser P B) → Spent cost n r → ((a : A) → Spends (m + cost a) fine (k a)) → Spent fine (n + m) (then r k)
  unfolding then
  then_spends m cost fine n (ok a ts) k h e = spent_more fine (weigh ts + (m + cost a)) (n + m) (k a ts) (omega arith) ((e a).spends ts)
  then_spends m cost fine n (fail x p) k h e = tt

  pub bind_spends : {A B : Type 0} {m : ℕ} {cost : A → ℕ} {fine : B → ℕ} {p : Parser P A} (k : A → Parser P B) → Spends 0 cost p → ((a : A) → Spends (m + cost a) fine (k a)) → Spends m fine (p >>= k)
  unfolding ◌>>=◌
  bind_spends {m = m} {cost = cost} {fine = fine} {p = p} k e d =
      record { spends = λ ts. spent_more fine (weigh ts + 0 + m) (weigh ts + m) (then (p ts) k) (omega arith) (then_spends m cost fine (weigh ts + 0) (p ts) k (e.spends ts) d) }

  pub give_spends : {A : Type 0} {m : ℕ} {cost : A → ℕ} {a : A} → cost a ≤ m → Spends m cost (give a)
  give_spends h = record { spends = λ ts. omega arith }

  module _ (stop : P) where
    taken_spends : {A : Type 0} (c : A → ℕ) (o : Option A) (bad : TokenKind → ℕ) (t : Token P) (ts : List (Token P)) → Maybe (λ a. c a ≤ weight (t.kind)) o → Spent (λ l. c (l.value)) (weigh (t ∷ ts) + 0) (taken o bad t ts)
    unfolding taken
    taken_spends c None bad t ts h = tt
    taken_spends c (Some a) bad t ts h = omega (arith, h)

    one_s : {A : Type 0} (c : A → ℕ) (view : TokenKind → Option A) (bad : TokenKind → ℕ) → ((k : TokenKind) → Maybe (λ a. c a ≤ weight k) (view k)) → (ts : List (Token P)) → Spent (λ l. c (l.value)) (weigh ts + 0) (one stop view bad ts)
    unfolding one
    one_s c view bad h [] = tt
    one_s c view bad h (t ∷ ts) = taken_spends c (view (t.kind)) bad t ts (h (t.kind))

    pub view_spends : {A : Type 0} (c : A → ℕ) (view : TokenKind → Option A) (bad : TokenKind → ℕ) → ((k : TokenKind) → Maybe (λ a. c a ≤ weight k) (view k)) → Spends 0 (λ l. c (l.value)) (one stop view bad)
    view_spends c view bad h = record { spends = one_s c view bad h }

    least : {A : Type 0} (k : TokenKind) (o : Option A) → Maybe (λ a. 1 ≤ weight k) o
    least k None = tt
    least k (Some a) = weight_least k

    -- a token costs one
    pub one_spends : {A : Type 0} (view : TokenKind → Option A) (bad : TokenKind → ℕ) → Spends 0 (λ l. 1) (one stop view bad)
    one_spends view bad = view_spends (λ a. 1) view bad (λ k. least k (view k))

    expect_spends : (c : ℕ) → Spends 0 (λ l. 1) (expect stop c)
    unfolding expect
    expect_spends c = one_spends (is_sign c) unexpected

    branch_spends : {A : Type 0} (cost : A → ℕ) {p q : Parser P A} (o : Option Bool) → Spends 1 cost p → Spends 0 cost q → (t : Token P) (ts : List (Token P)) → Spent cost (weigh (t ∷ ts) + 0) (branch o p q t ts)
    unfolding branch
    branch_spends cost None d e t ts = e.spends (t ∷ ts)
    branch_spends cost {p = p} (Some b) d e t ts = spent_more cost (weigh ts + 1) (weigh (t ∷ ts) + 0) (p ts) (omega (arith, weight_least (t.kind))) (d.spends ts)

    opened_s : {A : Type 0} (cost : A → ℕ) {p q : Parser P A} (c : ℕ) → Spends 1 cost p → Spends 0 cost q → (ts : List (Token P)) → Spent cost (weigh ts + 0) (opened stop c p q ts)
    unfolding opened
    opened_s cost c d e [] = e.spends []
    opened_s cost c d e (t ∷ ts) = branch_spends cost (is_sign c (t.kind)) d e t ts

    opened_spends : {A : Type 0} {cost : A → ℕ} {p q : Parser P A} (c : ℕ) → Spends 1 cost p → Spends 0 cost q → Spends 0 cost (opened stop c p q)
    opened_spends {cost = cost} c d e = record { spends = opened_s cost c d e }

    go_on_spends : {A : Type 0} (cost : A → ℕ) {p : Parser P (List A)} (b : Bool) → Spends 0 (sum_of cost) p → (a : A) → Spends (suc (cost a)) (sum_of cost) (go_on b p a)
    unfolding go_on
    go_on_spends cost true e a = bind_spends {m = suc (cost a)} {cost = sum_of cost} _ e (λ l. give_spends (omega arith))
    go_on_spends cost false e a = give_spends (omega arith)

    most_spends : {A : Type 0} {cost : A → ℕ} {p : Parser P A} → Spends 0 cost p → (c n : ℕ) → Spends 0 (sum_of cost) (at_most stop n p c)
    unfolding at_most
    most_spends e c zero = record { spends = λ ts. tt }
    most_spends {cost = cost} {p = p} e c (suc n) =
        bind_spends {m = 0} {cost = cost} _ e (λ a. bind_spends {m = 0 + cost a} {cost = λ l. 1} _ (one_spends (goes_on c) unexpected) (λ b. more (cost a) (go_on_spends cost (b.value) (most_spends {cost = cost} {p = p} e c n) a)))
      where
        more : {B : Type 0} {fine : B → ℕ} {q : Parser P B} (x : ℕ) → Spends (suc x) fine q → Spends (0 + x + 1) fine q
        more {fine = fine} {q = q} x h = record { spends = λ ts. spent_more fine (weigh ts + suc x) (weigh ts + (0 + x + 1)) (q ts) (omega arith) (h.spends ts) }

    entries_spends : {A : Type 0} {cost : A → ℕ} {p : Parser P A} → Spends 0 cost p → (c : ℕ) → Spends 0 (sum_of cost) (entries stop p c)
    unfolding entries
    entries_spends e c = record { spends = λ ts. (most_spends e c (length ts)).spends ts }

    single_spends : {A : Type 0} {cost : A → ℕ} {p : Parser P A} (fine : List A → ℕ) → ((a : A) → fine (a ∷ []) ≤ cost a) → Spends 0 cost p → Spends 0 fine (single stop p)
    unfolding single
    single_spends {cost = cost} fine h e = bind_spends {m = 0} {cost = cost} _ e (λ a. give_spends (omega (arith, h a)))

    -- entries of one token each: alone, or between two signs
    few_spends : {A : Type 0} {p : Parser P A} (c d : ℕ) → Spends 0 (λ a. 1) p → Spends 0 (λ l. suc (2 * over (length l))) (opened stop c (entries stop p d) (single stop p))
    unfolding over
    few_spends c d e =
        opened_spends c
        (costs (λ l. suc (2 * over (length l))) 1 (λ l. omega (arith, sum_ones l, over_le (length l))) (entries_spends {cost = λ a. 1} e d))
        (single_spends {cost = λ a. 1} (λ l. suc (2 * over (length l))) (λ a. omega arith) e)

    symbol_spends : Spends 0 (λ l. 1) (symbol stop)
    unfolding symbol
    symbol_spends = one_spends symbol_in unexpected

    state_spends : Spends 0 (λ l. 1) (state stop)
    unfolding state
    state_spends = one_spends state_in unexpected

    read_spends : Spends 0 (λ s. suc (2 * over (length s))) (read_entry stop)
    unfolding read_entry
    read_spends = few_spends 0x7B 0x7D symbol_spends

    write_spends : Spends 0 (λ l. suc (2 * over (length l))) (tuple stop (write_entry stop))
    unfolding tuple write_entry
    write_spends = few_spends 0x28 0x29 (one_spends write_in unexpected)

    move_spends : Spends 0 (λ l. suc (2 * over (length l))) (tuple stop (direction stop))
    unfolding tuple direction
    move_spends = few_spends 0x28 0x29 (one_spends direction_in not_direction)

    reads_spends : Spends 0 (λ l. suc (2 * reads_over l)) (tuple stop (read_entry stop))
    unfolding tuple
    reads_spends =
        opened_spends 0x28
        (costs (λ l. suc (2 * reads_over l)) 1 (λ l. omega (arith, sum_sets l, reads_overs l)) (entries_spends read_spends 0x29))
        (single_spends (λ l. suc (2 * reads_over l)) (λ s. omega arith) read_spends)

    -- behind δ: ten tokens, and three lists
    pub transition_spends : Spends 0 (λ r. 13 + 2 * spare r) (transition stop)
    unfolding transition spare
    transition_spends =
        bind_spends _ (expect_spends 0x28) (λ _. bind_spends _ state_spends (λ from. bind_spends _ (expect_spends 0x2C) (λ _.
        bind_spends _ reads_spends (λ read. bind_spends _ (expect_spends 0x29) (λ _. bind_spends _ (expect_spends 0x3D) (λ _.
        bind_spends _ (expect_spends 0x28) (λ _. bind_spends _ state_spends (λ to. bind_spends _ (expect_spends 0x2C) (λ _.
        bind_spends _ write_spends (λ write. bind_spends _ (expect_spends 0x2C) (λ _. bind_spends _ move_spends (λ dir.
        bind_spends _ (expect_spends 0x29) (λ _. give_spends (omega arith))))))))))))))

-- ---- the keyword

abbrev pub key_weight : Keyword → ℕ
key_weight delta_word = 2
key_weight _ = 0

-- what holds of each row of a table holds of each word that it means something for
meaning_every : {A : Type 0} (p : List ℕ → A → Type 0) (l : List (List ℕ × A)) (w : List ℕ) → Every (λ x. p (x.0) (x.1)) l → Maybe (p w) (meaning_of l w)
unfolding meaning_of
meaning_every p [] w h = tt
meaning_every p (x ∷ l) w h = by_test (same (x.0) w)
    (λ e. rw (e, meaning_of) (subst (λ s. p s (x.1)) (same_true (x.0) w e) (h.0)))
    (λ e. rw (e, meaning_of) (meaning_every p l w (h.1)))

-- `δ` takes two bytes, `delta` five
keywords_weigh : Every (λ x. key_weight (x.1) ≤ weight (word (x.0))) keywords
unfolding weight sizes
keywords_weigh = omega arith

pub keyword_weighs : (k : TokenKind) → Maybe (λ a. key_weight a ≤ weight k) (word_in keywords k)
unfolding word_in
keyword_weighs (word w) = meaning_every (λ s a. key_weight a ≤ weight (word s)) keywords w keywords_weigh
keyword_weighs _ = tt
