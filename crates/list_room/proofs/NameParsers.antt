-- A parser takes the names of what it answers from tokens that it passes: their bytes and those of the words behind them are no
-- more than those of the words before.
use Prim.Native.Nat.{ℕ, zero, suc, ◌+◌, ◌≤◌}
use native.Mathlib.Omega.{arith}
use mathlib.Core.Bool.{Bool, true, false, not}
use mathlib.Core.List.{List, [], ◌∷◌}
use Rattle.std.specs.Prelude.{Option, None, Some}
use lib.ListN.{length}
use Rattle.chars.specs.Utf8.{sizes}
use Rattle.lexer.specs.Text.{codes, same}
use Rattle.lexer.specs.Tokens.{TokenKind, word, number, quoted, str, sign, comment, newline, unterminated_string, unterminated_quote, Token}
use Rattle.language.specs.Machine.{Located}
use Rattle.language.specs.Parser.{Result, ok, fail, Parser, then, ◌>>=◌, give, when, unexpected, is_sign, goes_on, taken, branch, go_on, one, expect, opened, at_most, entries, single, tuple, set}
use Rattle.language.specs.Lines.{RawTransition, Item, machine_item, input_item, kind_item, output_item, tapes_item, states_item, final_item, input_alphabet_item, tape_alphabet_item, blank_item, start_item, transition_item, state_in, symbol_in, write_in, direction_in, not_direction, string_in, number_in, word_in, Keyword, machine_word, kind_word, input_word, output_word, tapes_word, states_word, sigma_word, gamma_word, blank_word, start_word, final_word, delta_word, keywords, kinds, OutputWord, word_output, unary_output, binary_output, outputs, orders, string_taken, string, choice, state, symbol, direction, read_entry, write_entry, transition, output, item_of, item}
use Rattle.language.proofs.Every.{Maybe}
use Rattle.list_room.proofs.NameTokens.{total, kind_bytes, word_bytes}

-- ---- what names take

-- the bytes of a name
abbrev pub name_bytes : {P : Type 0} → Located P (List ℕ) → ℕ
name_bytes l = sizes l.value

-- the bytes of the two names of a rule
abbrev pub raw_bytes : {P : Type 0} → RawTransition P → ℕ
raw_bytes r = name_bytes r.from + name_bytes r.to

-- the bytes of the names in an item
abbrev pub item_bytes : {P : Type 0} → Item P → ℕ
item_bytes (machine_item x) = 0
item_bytes (input_item x) = 0
item_bytes (kind_item x) = 0
item_bytes (output_item x) = 0
item_bytes (tapes_item x) = 0
item_bytes (states_item x) = total name_bytes x
item_bytes (final_item x) = total name_bytes x
item_bytes (input_alphabet_item x) = 0
item_bytes (tape_alphabet_item x) = 0
item_bytes (blank_item x) = 0
item_bytes (start_item x) = name_bytes x
item_bytes (transition_item x) = raw_bytes x

-- ---- parsers

-- what is answered and the words behind it are at most n
abbrev pub Paid : {P A : Type 0} → (A → ℕ) → ℕ → Result P A → Type 0
Paid cost n (ok a ts) = cost a + word_bytes ts ≤ n
Paid cost n (fail m p) = Unit {0}

module _ {P : Type 0} where
  -- with n bytes from earlier
  pub record Spends {A : Type 0} (n : ℕ) (cost : A → ℕ) (p : Parser P A) : Type 0 where
    pub spends : (ts : List (Token P)) → Paid cost (n + word_bytes ts) (p ts)

  wider : {A : Type 0} (cost : A → ℕ) (m n : ℕ) (r : Result P A) → m ≤ n → Paid cost m r → Paid cost n r
  wider cost m n (ok a ts) h k = omega (arith, h, k)
  wider cost m n (fail x p) h k = tt

  then_spends : {A B : Type 0} (cost : A → ℕ) (due : B → ℕ) (n : ℕ) (r : Result P A) (k : A → Parser P B) → Paid cost n r → ((a : A) → Spends (cost a) due (k a)) → Paid due n (then r k)
  unfolding then
  then_spends cost due n (ok a ts) k h e = wider due (cost a + word_bytes ts) n (k a ts) h ((e a).spends ts)
  then_spends cost due n (fail x p) k h e = tt

  bind_spends : {A B : Type 0} {n : ℕ} {cost : A → ℕ} {due : B → ℕ} {p : Parser P A} (k : A → Parser P B) → Spends n cost p → ((a : A) → Spends (cost a) due (k a)) → Spends n due (p >>= k)
  unfolding ◌>>=◌
  bind_spends {n = n} {cost = cost} {due = due} {p = p} k e d = record { spends = λ ts. then_spends cost due (n + word_bytes ts) (p ts) k (e.spends ts) d }

  give_spends : {A : Type 0} {n : ℕ} {due : A → ℕ} (a : A) → due a ≤ n → Spends n due (give a)
  give_spends a h = record { spends = λ ts. omega (arith, h) }

  less_paid : {A : Type 0} (cost due : A → ℕ) (n : ℕ) (r : Result P A) → ((a : A) → due a ≤ cost a) → Paid cost n r → Paid due n r
  less_paid cost due n (ok a ts) e h = omega (arith, e a, h)
  less_paid cost due n (fail x p) e h = tt

  less_spends : {A : Type 0} {n : ℕ} (cost due : A → ℕ) {p : Parser P A} → ((a : A) → due a ≤ cost a) → Spends n cost p → Spends n due p
  less_spends {n = n} cost due {p = p} e h = record { spends = λ ts. less_paid cost due (n + word_bytes ts) (p ts) e (h.spends ts) }

  -- a parser of names, and one of anything
  abbrev Costs : {A : Type 0} → (A → ℕ) → Parser P A → Type 0
  Costs cost p = (n : ℕ) → Spends n (λ a. n + cost a) p

  abbrev Free : {A : Type 0} → Parser P A → Type 0
  Free p = (n : ℕ) → Spends n (λ a. n) p

  module _ (stop : P) where
    taken_spends : {A : Type 0} (cost : Located P A → ℕ) (n : ℕ) (o : Option A) (bad : TokenKind → ℕ) (t : Token P) (ts : List (Token P))
        → Maybe (λ a. cost (record { value = a; place = t.place }) ≤ n + kind_bytes t.kind) o → Paid cost (n + (kind_bytes t.kind + word_bytes ts)) (taken o bad t ts)
    unfolding taken
    taken_spends cost n None bad t ts h = tt
    taken_spends cost n (Some a) bad t ts h = omega (arith, h)

    one_s : {A : Type 0} (cost : Located P A → ℕ) (n : ℕ) (view : TokenKind → Option A) (bad : TokenKind → ℕ)
        → ((t : Token P) → Maybe (λ a. cost (record { value = a; place = t.place }) ≤ n + kind_bytes t.kind) (view t.kind)) → (ts : List (Token P)) → Paid cost (n + word_bytes ts) (one stop view bad ts)
    unfolding one total
    one_s cost n view bad e [] = tt
    one_s cost n view bad e (t ∷ ts) = taken_spends cost n (view t.kind) bad t ts (e t)

    one_spends : {A : Type 0} (cost : Located P A → ℕ) (n : ℕ) (view : TokenKind → Option A) (bad : TokenKind → ℕ)
        → ((t : Token P) → Maybe (λ a. cost (record { value = a; place = t.place }) ≤ n + kind_bytes t.kind) (view t.kind)) → Spends n cost (one stop view bad)
    one_spends cost n view bad e = record { spends = one_s cost n view bad e }

    any_view : {A : Type 0} (n m : ℕ) → n ≤ m → (o : Option A) → Maybe (λ a. n ≤ m) o
    any_view n m h None = tt
    any_view n m h (Some a) = h

    one_free : {A : Type 0} (view : TokenKind → Option A) (bad : TokenKind → ℕ) → Free (one stop view bad)
    one_free view bad n = one_spends (λ a. n) n view bad (λ t. any_view n (n + kind_bytes t.kind) (omega arith) (view t.kind))

    branch_spends : {A : Type 0} (cost : A → ℕ) (n : ℕ) {p q : Parser P A} (o : Option Bool) → Spends n cost p → Spends n cost q → (t : Token P) (ts : List (Token P))
        → Paid cost (n + (kind_bytes t.kind + word_bytes ts)) (branch o p q t ts)
    unfolding branch total
    branch_spends cost n None d e t ts = e.spends (t ∷ ts)
    branch_spends cost n {p = p} (Some b) d e t ts = wider cost (n + word_bytes ts) (n + (kind_bytes t.kind + word_bytes ts)) (p ts) (omega arith) (d.spends ts)

    opened_s : {A : Type 0} (cost : A → ℕ) (n : ℕ) {p q : Parser P A} (c : ℕ) → Spends n cost p → Spends n cost q → (ts : List (Token P)) → Paid cost (n + word_bytes ts) (opened stop c p q ts)
    unfolding opened total
    opened_s cost n c d e [] = e.spends []
    opened_s cost n c d e (t ∷ ts) = branch_spends cost n (is_sign c t.kind) d e t ts

    opened_spends : {A : Type 0} {cost : A → ℕ} {n : ℕ} {p q : Parser P A} (c : ℕ) → Spends n cost p → Spends n cost q → Spends n cost (opened stop c p q)
    opened_spends {cost = cost} {n = n} c d e = record { spends = opened_s cost n c d e }

    go_on_spends : {A : Type 0} (cost : A → ℕ) {p : Parser P (List A)} (b : Bool) → Costs (total cost) p → (n : ℕ) (a : A) → Spends (n + cost a) (λ l. n + total cost l) (go_on b p a)
    unfolding go_on total
    go_on_spends cost true e n a = bind_spends _ (e (n + cost a)) (λ l. give_spends (a ∷ l) (omega arith))
    go_on_spends cost false e n a = give_spends (a ∷ []) (omega arith)

    most_costs : {A : Type 0} (cost : A → ℕ) {p : Parser P A} → Costs cost p → (c k : ℕ) → Costs (total cost) (at_most stop k p c)
    unfolding at_most
    most_costs cost e c zero n = record { spends = λ ts. tt }
    most_costs cost e c (suc k) n =
        bind_spends _ (e n) (λ a. bind_spends _ (one_free (goes_on c) unexpected (n + cost a)) (λ b. go_on_spends cost b.value (most_costs cost e c k) n a))

    entries_costs : {A : Type 0} (cost : A → ℕ) {p : Parser P A} → Costs cost p → (c : ℕ) → Costs (total cost) (entries stop p c)
    unfolding entries
    entries_costs cost e c n = record { spends = λ ts. (most_costs cost e c (length ts) n).spends ts }

    expect_free : (c : ℕ) → Free (expect stop c)
    unfolding expect
    expect_free c = one_free (is_sign c) unexpected

    set_costs : {A : Type 0} (cost : A → ℕ) {p : Parser P A} → Costs cost p → Costs (total cost) (set stop p)
    unfolding set total
    set_costs cost e n = bind_spends _ (expect_free 0x7B n) (λ _. opened_spends 0x7D (give_spends [] (omega arith)) (entries_costs cost e 0x7D n))

    -- without names
    nothing_costs : {A : Type 0} {p : Parser P A} → Free p → Costs (λ a. 0) p
    nothing_costs e n = less_spends (λ a. n) (λ a. n + 0) (λ a. omega arith) (e n)

    entries_free : {A : Type 0} {p : Parser P A} → Free p → (c : ℕ) → Free (entries stop p c)
    entries_free e c n = less_spends (λ l. n + total (λ a. 0) l) (λ l. n) (λ l. omega arith) (entries_costs (λ a. 0) (nothing_costs e) c n)

    single_free : {A : Type 0} {p : Parser P A} → Free p → Free (single stop p)
    unfolding single
    single_free e n = bind_spends _ (e n) (λ a. give_spends (a ∷ []) (omega arith))

    tuple_free : {A : Type 0} {p : Parser P A} → Free p → Free (tuple stop p)
    unfolding tuple
    tuple_free e n = opened_spends 0x28 (entries_free e 0x29 n) (single_free e n)

    set_free : {A : Type 0} {p : Parser P A} → Free p → Free (set stop p)
    set_free e n = less_spends (λ l. n + total (λ a. 0) l) (λ l. n) (λ l. omega arith) (set_costs (λ a. 0) (nothing_costs e) n)

    -- ---- items

    taken_string : (n : ℕ) (o : Option (List ℕ)) (t : Token P) (ts : List (Token P)) → Paid (λ a. n) (n + (kind_bytes t.kind + word_bytes ts)) (string_taken o t ts)
    unfolding string_taken
    taken_string n None t ts = tt
    taken_string n (Some s) t ts = omega arith

    string_s : (n : ℕ) (ts : List (Token P)) → Paid (λ a. n) (n + word_bytes ts) (string stop ts)
    unfolding string total
    string_s n [] = tt
    string_s n (t ∷ ts) = taken_string n (string_in t.kind) t ts

    string_free : Free (string stop)
    string_free n = record { spends = string_s n }

    when_small : (n : ℕ) (w : List ℕ) (b : Bool) → Maybe (λ a. n + sizes a ≤ n + sizes w) (when b w)
    when_small n w true = omega arith
    when_small n w false = tt

    state_view : (n : ℕ) (k : TokenKind) → Maybe (λ a. n + sizes a ≤ n + kind_bytes k) (state_in k)
    unfolding state_in
    state_view n (word w) = when_small n w (not (same w (codes "_")))
    state_view n (number w) = tt
    state_view n (quoted c) = tt
    state_view n (str s) = tt
    state_view n (sign c) = tt
    state_view n (comment s) = tt
    state_view n newline = tt
    state_view n unterminated_string = tt
    state_view n unterminated_quote = tt

    state_costs : Costs name_bytes (state stop)
    unfolding state
    state_costs n = one_spends (λ a. n + name_bytes a) n state_in unexpected (λ t. state_view n t.kind)

    symbol_free : Free (symbol stop)
    unfolding symbol
    symbol_free = one_free symbol_in unexpected

    read_free : Free (read_entry stop)
    unfolding read_entry
    read_free n = opened_spends 0x7B (entries_free symbol_free 0x7D n) (single_free symbol_free n)

    write_free : Free (write_entry stop)
    unfolding write_entry
    write_free = one_free write_in unexpected

    direction_free : Free (direction stop)
    unfolding direction
    direction_free = one_free direction_in not_direction

    choice_free : {A : Type 0} (l : List (List ℕ × A)) → Free (choice stop l)
    unfolding choice
    choice_free l = one_free (word_in l) unexpected

    transition_spends : Spends 0 raw_bytes (transition stop)
    unfolding transition
    transition_spends =
        bind_spends _ (expect_free 0x28 0) (λ _. bind_spends _ (state_costs 0) (λ from. bind_spends _ (expect_free 0x2C (0 + name_bytes from)) (λ _.
        bind_spends _ (tuple_free read_free (0 + name_bytes from)) (λ read. bind_spends _ (expect_free 0x29 (0 + name_bytes from)) (λ _. bind_spends _ (expect_free 0x3D (0 + name_bytes from)) (λ _.
        bind_spends _ (expect_free 0x28 (0 + name_bytes from)) (λ _. bind_spends _ (state_costs (0 + name_bytes from)) (λ to. bind_spends _ (expect_free 0x2C (0 + name_bytes from + name_bytes to)) (λ _.
        bind_spends _ (tuple_free write_free (0 + name_bytes from + name_bytes to)) (λ write. bind_spends _ (expect_free 0x2C (0 + name_bytes from + name_bytes to)) (λ _.
        bind_spends _ (tuple_free direction_free (0 + name_bytes from + name_bytes to)) (λ dir. bind_spends _ (expect_free 0x29 (0 + name_bytes from + name_bytes to)) (λ _.
        give_spends (record { from = from; read = read; to = to; write = write; dir = dir }) (omega arith))))))))))))))

    output_free : (w : OutputWord) → Free (output stop w)
    unfolding output
    output_free word_output n = give_spends _ (omega arith)
    output_free unary_output n = bind_spends _ (symbol_free n) (λ s. give_spends _ (omega arith))
    output_free binary_output n = bind_spends _ (choice_free orders n) (λ o. give_spends _ (omega arith))

    item_of_spends : (k : Keyword) → Spends 0 item_bytes (item_of stop k)
    unfolding item_of
    item_of_spends machine_word = bind_spends _ (string_free 0) (λ s. give_spends (machine_item s) (omega arith))
    item_of_spends kind_word = bind_spends _ (choice_free kinds 0) (λ k. give_spends (kind_item k.value) (omega arith))
    item_of_spends input_word = bind_spends _ (string_free 0) (λ s. give_spends (input_item s) (omega arith))
    item_of_spends output_word = bind_spends _ (choice_free outputs 0) (λ w. bind_spends _ (output_free w.value 0) (λ o. give_spends (output_item o) (omega arith)))
    item_of_spends tapes_word = bind_spends _ (expect_free 0x3D 0) (λ _. bind_spends _ (one_free number_in unexpected 0) (λ n. give_spends (tapes_item n) (omega arith)))
    item_of_spends states_word = bind_spends _ (expect_free 0x3D 0) (λ _. bind_spends _ (set_costs name_bytes state_costs 0) (λ q. give_spends (states_item q) (omega arith)))
    item_of_spends sigma_word = bind_spends _ (expect_free 0x3D 0) (λ _. bind_spends _ (set_free symbol_free 0) (λ l. give_spends (input_alphabet_item l) (omega arith)))
    item_of_spends gamma_word = bind_spends _ (expect_free 0x3D 0) (λ _. bind_spends _ (set_free symbol_free 0) (λ l. give_spends (tape_alphabet_item l) (omega arith)))
    item_of_spends blank_word = bind_spends _ (expect_free 0x3D 0) (λ _. bind_spends _ (symbol_free 0) (λ s. give_spends (blank_item s.value) (omega arith)))
    item_of_spends start_word = bind_spends _ (expect_free 0x3D 0) (λ _. bind_spends _ (state_costs 0) (λ q. give_spends (start_item q) (omega arith)))
    item_of_spends final_word = bind_spends _ (expect_free 0x3D 0) (λ _. bind_spends _ (set_costs name_bytes state_costs 0) (λ q. give_spends (final_item q) (omega arith)))
    item_of_spends delta_word = bind_spends _ transition_spends (λ r. give_spends (transition_item r) (omega arith))

    -- an item's names take no more than its line's words
    pub item_spends : Spends 0 item_bytes (item stop)
    unfolding item
    item_spends = bind_spends _ (choice_free keywords 0) (λ k. item_of_spends k.value)
