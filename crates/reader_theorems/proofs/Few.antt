-- A text has at most half as many diagnostics as tokens: each has two of its own, a line's first token and its line feed, or a
-- name that F lists and the comma or brace behind it.
use mathlib.Core.Path.{◌≡◌, refl}
use mathlib.Core.Bool.{Bool, true, false}
use mathlib.Core.List.{List, [], ◌∷◌, ◌++◌, map}
use Rattle.std.specs.Prelude.{Option, None, Some, unwrap_or}
use Prim.Native.Nat.{ℕ, zero, suc, ◌+◌, ◌*◌, ◌≤◌, ◌<◌, zero-le}
use native.Mathlib.Omega.{arith}
use lib.Dec.{leb}
use lib.ListN.{length, length-append}
use Rattle.chars.specs.Utf8.{decode}
use Rattle.lexer.specs.Tokens.{Token, Span, tokens}
use Rattle.lexer.proofs.Writes.{tokens_of_bytes}
use Rattle.machine.specs.declared.Kind.{Kind}
use Rattle.language.specs.Machine.{Located}
use Rattle.language.specs.Parser.{Result, ok, fail, Parser, then, ◌>>=◌, give, unexpected, is_sign, goes_on, branch, go_on, one, expect, opened, at_most, entries, set}
use Rattle.language.specs.Lines.{RawSymbol, RawTransition, Item, machine_item, input_item, kind_item, output_item, tapes_item, states_item, final_item, input_alphabet_item, tape_alphabet_item, blank_item, start_item, transition_item, Line, blank_line, comment_line, item_line, error_line, state_in, word_in, Keyword, machine_word, kind_word, input_word, output_word, tapes_word, states_word, sigma_word, gamma_word, blank_word, start_word, final_word, delta_word, keywords, kinds, outputs, transition, OutputWord, choice, string, numeral, symbol, state, output, item_of, item, Row, Ending, line_feed, goes_by, remark, ending_of, in_front, rows, finished, empty_line, line_from, line_of, lines, covering, read_lines}
use Rattle.language.specs.Assembly.{items, first, found, finals_in, Body, RuleLine, at_end, attach_item, attach, body_of, combinations, verdict, Verdict, expands, wrong_arity, too_many, Diagnostic, diagnostic, line_errors, declaration, earlier, tapes_error, declaration_error, declaration_errors, unknown_error, listed_at, final_error, final_errors, rule_errors, states_in, diagnostics_of}
use Rattle.language.proofs.Columns.{parts, select}
use Rattle.language.proofs.Entries.{Below, Takes, one-takes}

-- ---- the names of a set: each takes a token, and so does what stands behind it
-- what a parser gives, and the tokens behind it, have the property q
abbrev Ends : {P A : Type 0} → (A → List (Token P) → Type 0) → Result P A → Type 0
Ends q (ok a ts) = q a ts
Ends q (fail n p) = Unit {0}

-- two tokens for each member
abbrev Twice : {P A : Type 0} → ℕ → List A → List (Token P) → Type 0
Twice n l ts = 2 * length l + length ts ≤ n

module _ {P A B : Type 0} (q : B → List (Token P) → Type 0) where
  -- a parser that gives it whatever stands before
  behind : (r : Result P A) (k : A → Parser P B) → ((a : A) (ts : List (Token P)) → Ends q (k a ts)) → Ends q (then r k)
  unfolding then
  behind (ok a ts) k h = h a ts
  behind (fail n p) k h = tt

  -- or behind fewer than n tokens
  behind_fewer : (n : ℕ) (r : Result P A) (k : A → Parser P B) → Below n r → ((a : A) (ts : List (Token P)) → length ts < n → Ends q (k a ts)) → Ends q (then r k)
  unfolding then
  behind_fewer n (ok a ts) k b h = h a ts b
  behind_fewer n (fail m p) k b h = tt

fewer_twice : {P A : Type 0} (m n : ℕ) (r : Result P (List A)) → m ≤ n → Ends (Twice m) r → Ends (Twice n) r
fewer_twice m n (ok l ts) h e = omega arith
fewer_twice m n (fail x y) h e = tt

more_twice : {P A : Type 0} (n : ℕ) (r : Result P (List A)) (a : A) (m : ℕ) → m + 2 ≤ n → Ends (Twice m) r → Ends (Twice n) (then r (λ more. give (a ∷ more)))
unfolding then
more_twice n (ok l ts) a m h e = omega arith
more_twice n (fail x y) a m h e = tt

on_twice : {P A : Type 0} (n : ℕ) (b : Bool) (p : Parser P (List A)) (a : A) (ts : List (Token P)) → length ts + 2 ≤ n → Ends (Twice (length ts)) (p ts) → Ends (Twice n) (go_on b p a ts)
unfolding go_on ◌>>=◌
on_twice n true p a ts h e = more_twice n (p ts) a (length ts) h e
on_twice n false p a ts h e = omega arith

module _ {P A : Type 0} (stop : P) {p : Parser P A} (e : Takes stop p) where
  most_twice : (c n : ℕ) (ts : List (Token P)) → Ends (Twice (length ts)) (at_most stop n p c ts)
  unfolding at_most ◌>>=◌
  most_twice c zero ts = tt
  most_twice c (suc n) ts =
      behind_fewer (Twice (length ts)) (length ts) (p ts) _ (e.takes ts)
      (λ a us h. behind_fewer (Twice (length ts)) (length us) (one stop (goes_on c) unexpected us) _ ((one-takes stop (goes_on c) unexpected).takes us)
      (λ b vs g. on_twice (length ts) b.value (at_most stop n p c) a vs (omega arith) (most_twice c n vs)))

  opened_twice : (c : ℕ) (ts : List (Token P)) → Ends (Twice (length ts)) (opened stop c (give []) (entries stop p c) ts)
  unfolding opened entries
  opened_twice c [] = most_twice c 0 []
  opened_twice c (t ∷ ts) = branched (is_sign c t.kind) (most_twice c (suc (length ts)) (t ∷ ts))
    where
      branched : (o : Option Bool) → Ends (Twice (suc (length ts))) (entries stop p c (t ∷ ts)) → Ends (Twice (suc (length ts))) (branch o (give []) (entries stop p c) t ts)
      branched None g = unfold branch in g
      branched (Some b) g = unfold branch in omega arith

  set_twice : (ts : List (Token P)) → Ends (Twice (length ts)) (set stop p ts)
  unfolding set expect ◌>>=◌
  set_twice ts =
      behind_fewer (Twice (length ts)) (length ts) (expect stop 0x7B ts) _ ((one-takes stop (is_sign 0x7B) unexpected).takes ts)
      (λ b us h. fewer_twice (length us) (length ts) (opened stop 0x7D (give []) (entries stop p 0x7D) us) (omega arith) (opened_twice 0x7D us))

-- the names that an item lists as final
abbrev finals_of : {P : Type 0} → Item P → List (Located P (List ℕ))
finals_of i = unwrap_or (parts i).finals []

module _ {P : Type 0} (stop : P) where
  abbrev Pays : ℕ → Item P → List (Token P) → Type 0
  Pays n i ts = 2 * length (finals_of i) ≤ n

  -- an item that lists none, of what a parser gives
  plain : {A : Type 0} (n : ℕ) (r : Result P A) (f : A → Item P) → ((a : A) → finals_of (f a) ≡ []) → Ends (Pays n) (then r (λ a. give (f a)))
  plain n r f e = behind (Pays n) r (λ a. give (f a)) (λ a us. rw (e a) zero-le)

  plain-behind : {A B : Type 0} (n : ℕ) (r : Result P A) (p : A → Parser P B) (f : B → Item P) → ((b : B) → finals_of (f b) ≡ []) → Ends (Pays n) (then r (λ a. p a >>= λ b. give (f b)))
  unfolding ◌>>=◌
  plain-behind n r p f e = behind (Pays n) r (λ a. p a >>= λ b. give (f b)) (λ a us. plain n (p a us) f e)

  behind-keyword : (k : Keyword) (ts : List (Token P)) → Ends (Pays (length ts)) (item_of stop k ts)
  unfolding item_of ◌>>=◌
  behind-keyword machine_word ts = plain (length ts) (string stop ts) machine_item (λ a. refl)
  behind-keyword kind_word ts = plain (length ts) (choice stop kinds ts) (λ (k : Located P Kind). kind_item k.value) (λ a. refl)
  behind-keyword input_word ts = plain (length ts) (string stop ts) input_item (λ a. refl)
  behind-keyword output_word ts = plain-behind (length ts) (choice stop outputs ts) (λ (w : Located P OutputWord). output stop w.value) output_item (λ a. refl)
  behind-keyword tapes_word ts = plain-behind (length ts) (expect stop 0x3D ts) (λ _. numeral stop) tapes_item (λ a. refl)
  behind-keyword states_word ts = plain-behind (length ts) (expect stop 0x3D ts) (λ _. set stop (state stop)) states_item (λ a. refl)
  behind-keyword sigma_word ts = plain-behind (length ts) (expect stop 0x3D ts) (λ _. set stop (symbol stop)) input_alphabet_item (λ a. refl)
  behind-keyword gamma_word ts = plain-behind (length ts) (expect stop 0x3D ts) (λ _. set stop (symbol stop)) tape_alphabet_item (λ a. refl)
  behind-keyword blank_word ts = plain-behind (length ts) (expect stop 0x3D ts) (λ _. symbol stop) (λ (s : Located P RawSymbol). blank_item s.value) (λ a. refl)
  behind-keyword start_word ts = plain-behind (length ts) (expect stop 0x3D ts) (λ _. state stop) start_item (λ a. refl)
  behind-keyword delta_word ts = plain (length ts) (transition stop ts) transition_item (λ a. refl)
  behind-keyword final_word ts =
      behind_fewer (Pays (length ts)) (length ts) (expect stop 0x3D ts) _ ((one-takes stop (is_sign 0x3D) unexpected).takes ts)
      (λ b us h. listed (length ts) (set stop (state stop) us) (length us) (omega arith) (set_twice stop (one-takes stop state_in unexpected) us))
    where
      listed : (n : ℕ) (r : Result P (List (Located P (List ℕ)))) (m : ℕ) → m ≤ n → Ends (Twice m) r → Ends (Pays n) (then r (λ q. give (final_item q)))
      listed n (ok l us) m h e = unfold then in omega arith
      listed n (fail x y) m h e = unfold then in tt

  -- behind its first token an item has two for each name that it lists as final
  item_pays : (t : Token P) (ts : List (Token P)) → Ends (Pays (length ts)) (item stop (t ∷ ts))
  unfolding item choice ◌>>=◌
  item_pays t ts =
      behind_fewer (Pays (length ts)) (suc (length ts)) (choice stop keywords (t ∷ ts)) _ ((one-takes stop (word_in keywords) unexpected).takes (t ∷ ts))
      (λ k us h. fewer (item_of stop k.value us) (length us) (omega arith) (behind-keyword k.value us))
    where
      fewer : (r : Result P (Item P)) (m : ℕ) → m ≤ length ts → Ends (Pays m) r → Ends (Pays (length ts)) r
      fewer (ok i us) m h e = omega arith
      fewer (fail x y) m h e = tt

-- ---- lines: no more diagnostics than half their tokens
-- how many diagnostics a line can give
found_at : {P : Type 0} → Line P → ℕ
found_at blank_line = 0
found_at (comment_line c) = 0
found_at (item_line i p c) = 1 + length (finals_of i)
found_at (error_line n p) = 1

found_in : {P : Type 0} → List (Line P) → ℕ
found_in [] = 0
found_in (l ∷ ls) = found_at l + found_in ls

module _ {P : Type 0} where
  finished_few : (p : P) (c : Option (Located P (List ℕ))) (n : ℕ) (r : Result P (Item P)) → Ends (Pays p n) r → 2 * found_at (finished p c r) ≤ suc n + 1
  unfolding finished found_at
  finished_few p c n (ok i []) e = omega arith
  finished_few p c n (ok i (t ∷ ts)) e = omega arith
  finished_few p c n (fail m q) e = omega arith

  empty_few : (c : Option (Located P (List ℕ))) → found_at (empty_line c) ≡ 0
  unfolding empty_line found_at
  empty_few None = refl
  empty_few (Some c) = refl

  module _ (◌⋯◌ : P → P → P) where
    line_few : (ts : List (Token P)) (stop : P) (c : Option (Located P (List ℕ))) → 2 * found_at (line_from ◌⋯◌ ts stop c) ≤ length ts + 1
    unfolding line_from
    line_few [] stop c = omega (arith, empty_few c)
    line_few (t ∷ ts) stop c = finished_few _ c (length ts) (item stop (t ∷ ts)) (item_pays stop t ts)

    -- the tokens of rows, each with what ends it
    size : List (Row P) → ℕ
    size [] = 0
    size (r ∷ rs) = length r.body + 1 + size rs

    front-size : (k : Ending) (t : Token P) (rs : List (Row P)) → size (in_front k t rs) ≤ suc (size rs)
    unfolding in_front size
    front-size line_feed t rs = omega arith
    front-size goes_by t [] = omega arith
    front-size goes_by t (r ∷ rs) = omega arith
    front-size (remark s) t [] = omega arith
    front-size (remark s) t (r ∷ rs) = omega arith

    rows-size : (ts : List (Token P)) → size (rows ts) ≤ length ts
    unfolding rows size
    rows-size [] = omega arith
    rows-size (t ∷ ts) = omega (arith, front-size (ending_of t.kind) t (rows ts), rows-size ts)

    rows_few : (rs : List (Row P)) → 2 * found_in (map (line_of ◌⋯◌) rs) ≤ size rs
    unfolding line_of found_in size
    rows_few [] = omega arith
    rows_few (r ∷ rs) = omega (arith, line_few r.body r.stop r.comment, rows_few rs)

    lines_few : (ts : List (Token P)) → 2 * found_in (lines ◌⋯◌ ts) ≤ length ts
    unfolding lines
    lines_few ts = omega (arith, rows_few (rows ts), rows-size ts)

-- ---- assembly: a line gives one diagnostic, and those of the names that it lists as final
module _ {P : Type 0} where
  tapes-one : (o : Option (Located P ℕ)) → length (tapes_error o) ≤ 1
  unfolding tapes_error
  tapes-one None = omega arith
  tapes-one (Some n) = go (leb n.value 255)
    where
      go : (b : Bool) → length {A = Diagnostic P} (elim b [ true ↦ [] | false ↦ diagnostic 9 n.place None ∷ [] ]) ≤ 1
      go true = omega arith
      go false = omega arith

  declaration-one : (before : List (Located P (Item P))) (i : Located P (Item P)) → length (declaration_error before i) ≤ 1
  unfolding declaration_error
  declaration-one before i = go (earlier (declaration i.value) before) (tapes-one (parts i.value).tapes)
    where
      go : (o : Option P) → length (tapes_error (parts i.value).tapes) ≤ 1 → length {A = Diagnostic P} (elim o [ Some p ↦ diagnostic 11 i.place (Some p) ∷ [] | None ↦ tapes_error (parts i.value).tapes ]) ≤ 1
      go None h = h
      go (Some p) h = omega arith

  -- how many rules an item is
  rule_in : Option (RawTransition P) → ℕ
  rule_in None = 0
  rule_in (Some r) = 1

  -- a rule is no declaration
  one_each : (before : List (Located P (Item P))) (i : Item P) (p : P) → length (declaration_error before (record { value = i; place = p })) + rule_in (parts i).rule ≤ 1
  unfolding rule_in
  one_each before (machine_item x) p = omega (arith, declaration-one before (record { value = machine_item x; place = p }))
  one_each before (input_item x) p = omega (arith, declaration-one before (record { value = input_item x; place = p }))
  one_each before (kind_item x) p = omega (arith, declaration-one before (record { value = kind_item x; place = p }))
  one_each before (output_item x) p = omega (arith, declaration-one before (record { value = output_item x; place = p }))
  one_each before (tapes_item x) p = omega (arith, declaration-one before (record { value = tapes_item x; place = p }))
  one_each before (states_item x) p = omega (arith, declaration-one before (record { value = states_item x; place = p }))
  one_each before (final_item x) p = omega (arith, declaration-one before (record { value = final_item x; place = p }))
  one_each before (input_alphabet_item x) p = omega (arith, declaration-one before (record { value = input_alphabet_item x; place = p }))
  one_each before (tape_alphabet_item x) p = omega (arith, declaration-one before (record { value = tape_alphabet_item x; place = p }))
  one_each before (blank_item x) p = omega (arith, declaration-one before (record { value = blank_item x; place = p }))
  one_each before (start_item x) p = omega (arith, declaration-one before (record { value = start_item x; place = p }))
  one_each before (transition_item x) p = unfold declaration_error declaration earlier tapes_error rule_in in omega arith

  -- the first F, or those behind it
  finals_few : (i : Located P (Item P)) (is : List (Located P (Item P))) → length (finals_in (i ∷ is)) ≤ length (finals_of i.value) + length (finals_in is)
  unfolding finals_in first
  finals_few i is = go (parts i.value).finals
    where
      go : (o : Option (List (Located P (List ℕ))))
          → length (unwrap_or (found {P = P} {A = List (Located P (List ℕ))} (elim o [ Some a ↦ Some (record { value = a; place = i.place }) | None ↦ first (select λ p. p.finals) is ])) []) ≤ length (unwrap_or o []) + length (unwrap_or (found (first (select λ p. p.finals) is)) [])
      go None = unfold found in omega arith
      go (Some a) = unfold found in omega arith

  attached : (o : Option (RawTransition P)) (seen : Bool) (old block : List (Located P (List ℕ))) (p : P) (c : Option (Located P (List ℕ))) (b : Body P)
      → length (attach_item o seen old block p c b).rules ≡ rule_in o + length b.rules
  unfolding attach_item rule_in
  attached None seen old block p c b = omega arith
  attached (Some r) seen old block p c b = omega arith

  ended : (seen : Bool) (cs : List (Located P (List ℕ))) → length (at_end seen cs).rules ≡ 0
  unfolding at_end
  ended true cs = refl
  ended false cs = refl

  all_found : (before : List (Located P (Item P))) (seen : Bool) (old block : List (Located P (List ℕ))) (ls : List (Line P))
      → length (line_errors ls) + length (declaration_errors before (items ls)) + length (finals_in (items ls)) + length (attach seen old block ls).rules ≤ found_in ls
  unfolding line_errors items declaration_errors attach found_in found_at
  all_found before seen old block [] = unfold finals_in first found in omega (arith, ended seen (old ++ block))
  all_found before seen old block (blank_line ∷ ls) = omega (arith, all_found before seen (old ++ block) [] ls)
  all_found before seen old block (comment_line c ∷ ls) = omega (arith, all_found before seen old (block ++ c ∷ []) ls)
  all_found before seen old block (error_line n p ∷ ls) = omega (arith, all_found before true [] [] ls)
  all_found before seen old block (item_line i p c ∷ ls) =
      let here : Located P (Item P) = record { value = i; place = p } in
      omega (
        arith,
        length-append (declaration_error before here) (declaration_errors (before ++ here ∷ []) (items ls)),
        one_each before i p,
        finals_few here (items ls),
        attached (parts i).rule seen old block p c (attach true [] [] ls),
        all_found (before ++ here ∷ []) true [] [] ls,
      )

  -- a name that F lists gives one diagnostic at most
  unknown_one : (q : Option (List (Located P (List ℕ)))) (f : Located P (List ℕ)) → length (unknown_error q f) ≤ 1
  unfolding unknown_error
  unknown_one None f = omega arith
  unknown_one (Some q) f = go (listed_at f.value q)
    where
      go : (o : Option P) → length {A = Diagnostic P} (elim o [ Some p ↦ [] | None ↦ diagnostic 3 f.place None ∷ [] ]) ≤ 1
      go None = omega arith
      go (Some p) = omega arith

  final-one : (q : Option (List (Located P (List ℕ)))) (before : List (Located P (List ℕ))) (f : Located P (List ℕ)) → length (final_error q before f) ≤ 1
  unfolding final_error
  final-one q before f = go (listed_at f.value before) (unknown_one q f)
    where
      go : (o : Option P) → length (unknown_error q f) ≤ 1 → length {A = Diagnostic P} (elim o [ Some p ↦ diagnostic 11 f.place (Some p) ∷ [] | None ↦ unknown_error q f ]) ≤ 1
      go None h = h
      go (Some p) h = omega arith

  names-found : (q : Option (List (Located P (List ℕ)))) (before fs : List (Located P (List ℕ))) → length (final_errors q before fs) ≤ length fs
  unfolding final_errors
  names-found q before [] = omega arith
  names-found q before (f ∷ fs) =
      omega (arith, length-append (final_error q before f) (final_errors q (before ++ f ∷ []) fs), final-one q before f, names-found q (before ++ f ∷ []) fs)

  -- a rule has one diagnostic at most
  rules-found : (n : ℕ) (cut : Bool) (rs : List (RuleLine P)) → length (rule_errors n cut rs) ≤ length rs
  unfolding rule_errors
  rules-found n cut [] = omega arith
  rules-found n cut (r ∷ rs) = go (verdict n r.raw) cut (λ m b. rules-found m b rs)
    where
      go : (v : Verdict) (cut : Bool) → ((m : ℕ) (b : Bool) → length (rule_errors m b rs) ≤ length rs)
          → length {A = Diagnostic P} (elim v [
            | expands ↦ rule_errors (n + combinations r.raw.read) cut rs
            | wrong_arity ↦ diagnostic 10 r.line None ∷ rule_errors n cut rs
            | too_many ↦ elim cut [ true ↦ rule_errors n true rs | false ↦ diagnostic 9 r.line None ∷ rule_errors n true rs ]
          ]) ≤ suc (length rs)
      go expands cut h = omega (arith, h (n + combinations r.raw.read) cut)
      go wrong_arity cut h = omega (arith, h n cut)
      go too_many true h = omega (arith, h n true)
      go too_many false h = omega (arith, h n true)

  diagnostics-found : (ls : List (Line P)) → length (diagnostics_of ls) ≤ found_in ls
  unfolding diagnostics_of body_of
  diagnostics-found ls =
      let is : List (Located P (Item P)) = items ls in
      let finals : List (Diagnostic P) = final_errors (states_in is) [] (finals_in is) in
      let rules : List (Diagnostic P) = rule_errors 0 false (body_of ls).rules in
      omega (
        arith,
        length-append (line_errors ls) (declaration_errors [] is ++ (finals ++ rules)),
        length-append (declaration_errors [] is) (finals ++ rules),
        length-append finals rules,
        names-found (states_in is) [] (finals_in is),
        rules-found 0 false (body_of ls).rules,
        all_found [] false [] [] ls,
      )

-- ---- a text: tokens are at most one for each byte, and the line feed at the end
pub diagnostics_few : (text : List ℕ) → 10 * length (diagnostics_of (read_lines (decode text))) ≤ 6 * length text + 6
unfolding read_lines
diagnostics_few text =
    let ts : List (Token Span) = tokens (decode text) in
    omega (arith, diagnostics-found (lines covering ts), lines_few covering ts, tokens_of_bytes text)
