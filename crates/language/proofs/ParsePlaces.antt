-- Places do not steer the parser: to change each place and then parse is to parse and then change each place.
use Prim.Native.Nat.{ℕ, zero, suc}
use mathlib.Core.Bool.{Bool, true, false}
use mathlib.Core.List.{List, [], ◌∷◌, map, map-map}
use Rattle.std.specs.Prelude.{Option, None, Some}
use mathlib.Core.Path.{◌≡◌, refl, ap, ◌∙◌, sym}
use lib.ListN.{length, length-map}
use Rattle.lexer.specs.Tokens.{TokenKind, Token, tokens}
use Rattle.language.specs.Machine.{Located}
use Rattle.language.specs.Parser.{Result, ok, fail, Parser, then, ◌>>=◌, give, unexpected, is_sign, goes_on, taken, branch, go_on, one, expect, opened, at_most, entries, single, tuple, set}
use Rattle.language.specs.Lines.{RawTransition, Text, Item, machine_item, input_item, kind_item, output_item, tapes_item, states_item, final_item, input_alphabet_item, tape_alphabet_item, blank_item, start_item, transition_item, Line, blank_line, comment_line, item_line, error_line, state_in, symbol_in, write_in, direction_in, not_direction, string_in, number_in, word_in, Keyword, machine_word, kind_word, input_word, output_word, tapes_word, states_word, sigma_word, gamma_word, blank_word, start_word, final_word, delta_word, keywords, kinds, OutputWord, word_output, unary_output, binary_output, outputs, orders, string_taken, string, numeral, choice, state, symbol, direction, read_entry, write_entry, transition, output, item_of, item, Row, Ending, line_feed, goes_by, remark, ending_of, in_front, rows, finished, empty_line, line_from, line_of, lines, covering, read_lines}
use Rattle.language.proofs.Every.{map_ext}
use Rattle.language.proofs.Facts.{map_option}
use Rattle.language.proofs.TokenKinds as TokenKinds
use Rattle.language.proofs.PlainParse.{U, bare, nowhere}

module _ {P Q : Type 0} (f : P → Q) where
  abbrev pub on_token : Token P → Token Q
  on_token t = record { kind = t.kind; place = f t.place; inner = f t.inner }

  abbrev pub on_loc : {A : Type 0} → Located P A → Located Q A
  on_loc l = record { value = l.value; place = f l.place }

  abbrev pub on_text : Text P → Text Q
  on_text t = record { value = on_loc t.value; place = f t.place }

  abbrev pub on_result : {A B : Type 0} → (A → B) → Result P A → Result Q B
  on_result g (ok a ts) = ok (g a) (map on_token ts)
  on_result g (fail n p) = fail n (f p)

  abbrev pub on_raw : RawTransition P → RawTransition Q
  on_raw r = record { from = on_loc r.from; read = map (map on_loc) r.read; to = on_loc r.to; write = map on_loc r.write; dir = map on_loc r.dir }

  abbrev pub on_item : Item P → Item Q
  on_item (machine_item t) = machine_item (on_text t)
  on_item (input_item t) = input_item (on_text t)
  on_item (kind_item k) = kind_item k
  on_item (output_item o) = output_item o
  on_item (tapes_item n) = tapes_item (on_loc n)
  on_item (states_item l) = states_item (map on_loc l)
  on_item (final_item l) = final_item (map on_loc l)
  on_item (input_alphabet_item l) = input_alphabet_item (map on_loc l)
  on_item (tape_alphabet_item l) = tape_alphabet_item (map on_loc l)
  on_item (blank_item s) = blank_item s
  on_item (start_item l) = start_item (on_loc l)
  on_item (transition_item r) = transition_item (on_raw r)

  abbrev pub on_line : Line P → Line Q
  on_line blank_line = blank_line
  on_line (comment_line c) = comment_line (on_loc c)
  on_line (item_line i p c) = item_line (on_item i) (f p) (map_option on_loc c)
  on_line (error_line n p) = error_line n (f p)

  abbrev on_row : Row P → Row Q
  on_row r = record { body = map on_token r.body; stop = f r.stop; comment = map_option on_loc r.comment }

  -- ---- parsers

  record Natural {A B : Type 0} (g : A → B) (p : Parser P A) (q : Parser Q B) : Type 0 where
    natural : (ts : List (Token P)) → on_result g (p ts) ≡ q (map on_token ts)

  then_natural : {A B C D : Type 0} (g : A → B) (h : C → D) (r : Result P A) (k : A → Parser P C) (l : B → Parser Q D)
      → ((a : A) → Natural h (k a) (l (g a))) → on_result h (then r k) ≡ then (on_result g r) l
  unfolding then
  then_natural g h (ok a ts) k l e = (e a).natural ts
  then_natural g h (fail n p) k l e = refl

  bind_natural : {A B C D : Type 0} {g : A → B} {h : C → D} {p : Parser P A} {q : Parser Q B} {k : A → Parser P C} (l : B → Parser Q D)
      → Natural g p q → ((a : A) → Natural h (k a) (l (g a))) → Natural h (p >>= k) (q >>= l)
  unfolding ◌>>=◌
  bind_natural {g = g} {h = h} {p = p} {k = k} l e d = record { natural = λ ts. then_natural g h (p ts) k l d ∙ ap (λ r. then r l) (e.natural ts) }

  give_natural : {A B : Type 0} {g : A → B} {a : A} → Natural g (give a) (give (g a))
  give_natural = record { natural = λ ts. refl }

  module _ (stop : P) where
    taken_natural : {A : Type 0} (o : Option A) (bad : TokenKind → ℕ) (t : Token P) (ts : List (Token P)) → on_result on_loc (taken o bad t ts) ≡ taken o bad (on_token t) (map on_token ts)
    unfolding taken
    taken_natural None bad t ts = refl
    taken_natural (Some a) bad t ts = refl

    one_nat : {A : Type 0} (view : TokenKind → Option A) (bad : TokenKind → ℕ) (ts : List (Token P)) → on_result on_loc (one stop view bad ts) ≡ one (f stop) view bad (map on_token ts)
    unfolding one
    one_nat view bad [] = refl
    one_nat view bad (t ∷ ts) = taken_natural (view t.kind) bad t ts

    one_natural : {A : Type 0} (view : TokenKind → Option A) (bad : TokenKind → ℕ) → Natural on_loc (one stop view bad) (one (f stop) view bad)
    one_natural view bad = record { natural = one_nat view bad }

    branch_natural : {A B : Type 0} {g : A → B} {p p' : Parser P A} {q q' : Parser Q B} (o : Option Bool) → Natural g p q → Natural g p' q'
        → (t : Token P) (ts : List (Token P)) → on_result g (branch o p p' t ts) ≡ branch o q q' (on_token t) (map on_token ts)
    unfolding branch
    branch_natural None d e t ts = e.natural (t ∷ ts)
    branch_natural (Some b) d e t ts = d.natural ts

    opened_nat : {A B : Type 0} {g : A → B} {p p' : Parser P A} {q q' : Parser Q B} (c : ℕ) → Natural g p q → Natural g p' q'
        → (ts : List (Token P)) → on_result g (opened stop c p p' ts) ≡ opened (f stop) c q q' (map on_token ts)
    unfolding opened
    opened_nat c d e [] = e.natural []
    opened_nat c d e (t ∷ ts) = branch_natural (is_sign c t.kind) d e t ts

    opened_natural : {A B : Type 0} {g : A → B} {p p' : Parser P A} {q q' : Parser Q B} (c : ℕ) → Natural g p q → Natural g p' q'
        → Natural g (opened stop c p p') (opened (f stop) c q q')
    opened_natural c d e = record { natural = opened_nat c d e }

    go_on_natural : {A B : Type 0} {g : A → B} {p : Parser P (List A)} {q : Parser Q (List B)} (b : Bool) → Natural (map g) p q → (a : A) → Natural (map g) (go_on b p a) (go_on b q (g a))
    unfolding go_on
    go_on_natural true e a = bind_natural _ e (λ more. give_natural)
    go_on_natural false e a = give_natural

    at_most_natural : {A B : Type 0} {g : A → B} {p : Parser P A} {q : Parser Q B} → Natural g p q → (n c : ℕ) → Natural (map g) (at_most stop n p c) (at_most (f stop) n q c)
    unfolding at_most
    at_most_natural e zero c = record { natural = λ ts. refl }
    at_most_natural e (suc n) c = bind_natural _ e (λ a. bind_natural _ (one_natural (goes_on c) unexpected) (λ b. go_on_natural b.value (at_most_natural e n c) a))

    entries_natural : {A B : Type 0} {g : A → B} {p : Parser P A} {q : Parser Q B} → Natural g p q → (c : ℕ) → Natural (map g) (entries stop p c) (entries (f stop) q c)
    unfolding entries
    entries_natural {q = q} e c = record { natural = λ ts. (at_most_natural e (length ts) c).natural ts ∙ ap (λ n. at_most (f stop) n q c (map on_token ts)) (sym (length-map ts on_token)) }

    single_natural : {A B : Type 0} {g : A → B} {p : Parser P A} {q : Parser Q B} → Natural g p q → Natural (map g) (single stop p) (single (f stop) q)
    unfolding single
    single_natural e = bind_natural _ e (λ a. give_natural)

    tuple_natural : {A B : Type 0} {g : A → B} {p : Parser P A} {q : Parser Q B} → Natural g p q → Natural (map g) (tuple stop p) (tuple (f stop) q)
    unfolding tuple
    tuple_natural e = opened_natural 0x28 (entries_natural e 0x29) (single_natural e)

    expect_natural : (c : ℕ) → Natural on_loc (expect stop c) (expect (f stop) c)
    unfolding expect
    expect_natural c = one_natural (is_sign c) unexpected

    set_natural : {A B : Type 0} {g : A → B} {p : Parser P A} {q : Parser Q B} → Natural g p q → Natural (map g) (set stop p) (set (f stop) q)
    unfolding set
    set_natural e = bind_natural _ (expect_natural 0x7B) (λ _. opened_natural 0x7D give_natural (entries_natural e 0x7D))

    -- ---- items

    string_taken_lem : (o : Option (List ℕ)) (t : Token P) (ts : List (Token P)) → on_result on_text (string_taken o t ts) ≡ string_taken o (on_token t) (map on_token ts)
    unfolding string_taken
    string_taken_lem None t ts = refl
    string_taken_lem (Some s) t ts = refl

    string_nat : (ts : List (Token P)) → on_result on_text (string stop ts) ≡ string (f stop) (map on_token ts)
    unfolding string
    string_nat [] = refl
    string_nat (t ∷ ts) = string_taken_lem (string_in t.kind) t ts

    string_natural : Natural on_text (string stop) (string (f stop))
    string_natural = record { natural = string_nat }

    numeral_natural : Natural on_loc (numeral stop) (numeral (f stop))
    unfolding numeral
    numeral_natural = one_natural number_in unexpected

    state_natural : Natural on_loc (state stop) (state (f stop))
    unfolding state
    state_natural = one_natural state_in unexpected

    symbol_natural : Natural on_loc (symbol stop) (symbol (f stop))
    unfolding symbol
    symbol_natural = one_natural symbol_in unexpected

    direction_natural : Natural on_loc (direction stop) (direction (f stop))
    unfolding direction
    direction_natural = one_natural direction_in not_direction

    read_natural : Natural (map on_loc) (read_entry stop) (read_entry (f stop))
    unfolding read_entry
    read_natural = opened_natural 0x7B (entries_natural symbol_natural 0x7D) (single_natural symbol_natural)

    write_natural : Natural on_loc (write_entry stop) (write_entry (f stop))
    unfolding write_entry
    write_natural = one_natural write_in unexpected

    transition_natural : Natural on_raw (transition stop) (transition (f stop))
    unfolding transition
    transition_natural =
        bind_natural _ (expect_natural 0x28) (λ _. bind_natural _ state_natural (λ from. bind_natural _ (expect_natural 0x2C) (λ _.
        bind_natural _ (tuple_natural read_natural) (λ reads. bind_natural _ (expect_natural 0x29) (λ _. bind_natural _ (expect_natural 0x3D) (λ _.
        bind_natural _ (expect_natural 0x28) (λ _. bind_natural _ state_natural (λ to. bind_natural _ (expect_natural 0x2C) (λ _.
        bind_natural _ (tuple_natural write_natural) (λ writes. bind_natural _ (expect_natural 0x2C) (λ _. bind_natural _ (tuple_natural direction_natural) (λ dirs.
        bind_natural _ (expect_natural 0x29) (λ _. give_natural)))))))))))))

    output_natural : (w : OutputWord) → Natural (λ o. o) (output stop w) (output (f stop) w)
    unfolding output choice
    output_natural word_output = give_natural
    output_natural unary_output = bind_natural _ symbol_natural (λ s. give_natural)
    output_natural binary_output = bind_natural _ (one_natural (word_in orders) unexpected) (λ o. give_natural)

    item_of_natural : (k : Keyword) → Natural on_item (item_of stop k) (item_of (f stop) k)
    unfolding item_of choice
    item_of_natural machine_word = bind_natural _ string_natural (λ s. give_natural)
    item_of_natural kind_word = bind_natural _ (one_natural (word_in kinds) unexpected) (λ k. give_natural)
    item_of_natural input_word = bind_natural _ string_natural (λ s. give_natural)
    item_of_natural output_word = bind_natural _ (one_natural (word_in outputs) unexpected) (λ w. bind_natural _ (output_natural w.value) (λ o. give_natural))
    item_of_natural tapes_word = bind_natural _ (expect_natural 0x3D) (λ _. bind_natural _ numeral_natural (λ n. give_natural))
    item_of_natural states_word = bind_natural _ (expect_natural 0x3D) (λ _. bind_natural _ (set_natural state_natural) (λ q. give_natural))
    item_of_natural sigma_word = bind_natural _ (expect_natural 0x3D) (λ _. bind_natural _ (set_natural symbol_natural) (λ q. give_natural))
    item_of_natural gamma_word = bind_natural _ (expect_natural 0x3D) (λ _. bind_natural _ (set_natural symbol_natural) (λ q. give_natural))
    item_of_natural blank_word = bind_natural _ (expect_natural 0x3D) (λ _. bind_natural _ symbol_natural (λ s. give_natural))
    item_of_natural start_word = bind_natural _ (expect_natural 0x3D) (λ _. bind_natural _ state_natural (λ q. give_natural))
    item_of_natural final_word = bind_natural _ (expect_natural 0x3D) (λ _. bind_natural _ (set_natural state_natural) (λ q. give_natural))
    item_of_natural delta_word = bind_natural _ transition_natural (λ r. give_natural)

    item_natural : Natural on_item (item stop) (item (f stop))
    unfolding item choice
    item_natural = bind_natural _ (one_natural (word_in keywords) unexpected) (λ k. item_of_natural k.value)

  -- ---- rows and lines

  front_natural : (e : Ending) (t : Token P) (rs : List (Row P)) → map on_row (in_front e t rs) ≡ in_front e (on_token t) (map on_row rs)
  unfolding in_front
  front_natural line_feed t rs = refl
  front_natural goes_by t [] = refl
  front_natural goes_by t (r ∷ rs) = refl
  front_natural (remark s) t [] = refl
  front_natural (remark s) t (r ∷ rs) = refl

  rows_natural : (ts : List (Token P)) → map on_row (rows ts) ≡ rows (map on_token ts)
  unfolding rows
  rows_natural [] = refl
  rows_natural (t ∷ ts) = front_natural (ending_of t.kind) t (rows ts) ∙ ap (in_front (ending_of t.kind) (on_token t)) (rows_natural ts)

  finished_natural : (p : P) (c : Option (Located P (List ℕ))) (r : Result P (Item P)) → on_line (finished p c r) ≡ finished (f p) (map_option on_loc c) (on_result on_item r)
  unfolding finished
  finished_natural p c (ok i []) = refl
  finished_natural p c (ok i (t ∷ ts)) = refl
  finished_natural p c (fail n q) = refl

  empty_natural : (c : Option (Located P (List ℕ))) → on_line (empty_line c) ≡ empty_line (map_option on_loc c)
  unfolding empty_line
  empty_natural None = refl
  empty_natural (Some c) = refl

-- ---- without places

abbrev pub bare_line : {P : Type 0} → Line P → Line U
bare_line l = on_line (λ p. tt) l

abbrev bare_token : {P : Type 0} → Token P → Token U
bare_token t = on_token (λ p. tt) t

line-bare : {P : Type 0} (◌⋯◌ : P → P → P) (body : List (Token P)) (stop : P) (c : Option (Located P (List ℕ)))
    → bare_line (line_from ◌⋯◌ body stop c) ≡ line_from nowhere (map bare_token body) tt (map_option (on_loc (λ p. tt)) c)
unfolding line_from
line-bare ◌⋯◌ [] stop c = empty_natural (λ p. tt) c
line-bare ◌⋯◌ (t ∷ ts) stop c = finished_natural (λ p. tt) _ c (item stop (t ∷ ts)) ∙ ap (finished tt (map_option (on_loc (λ p. tt)) c)) ((item_natural (λ p. tt) stop).natural (t ∷ ts))

lines-bare : {P : Type 0} (◌⋯◌ : P → P → P) (ts : List (Token P)) → map bare_line (lines ◌⋯◌ ts) ≡ lines nowhere (map bare_token ts)
unfolding lines line_of
lines-bare ◌⋯◌ ts =
    map-map bare_line (line_of ◌⋯◌) (rows ts)
    ∙ (map_ext (λ r. line-bare ◌⋯◌ r.body r.stop r.comment) (rows ts)
    ∙ (sym (map-map (line_of nowhere) (on_row (λ p. tt)) (rows ts))
    ∙ ap (map (line_of nowhere)) (rows_natural (λ p. tt) ts)))

-- a text's lines without their places are the lines of its kinds
pub read-bare : (cs : List ℕ) → map bare_line (read_lines cs) ≡ lines nowhere (map bare (TokenKinds.kinds cs))
unfolding read_lines
read-bare cs = lines-bare covering (tokens cs) ∙ ap (lines nowhere) (sym (map-map bare (λ t. t.kind) (tokens cs)) ∙ ap (map bare) (TokenKinds.tokens-kinds cs))
