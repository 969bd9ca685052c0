-- What holds of each token holds of what the parsers make of them: names, strings and symbols are taken from tokens, and read sets are not empty.
use Prim.Native.Nat.{ℕ, zero, suc}
use mathlib.Core.Bool.{Bool, true, false}
use mathlib.Core.List.{List, [], ◌∷◌}
use Rattle.std.specs.Prelude.{Option, None, Some}
use mathlib.Core.Path.{sym}
use lib.ListN.{length}
use Rattle.lexer.specs.Tokens.{TokenKind, comment, Token}
use Rattle.language.specs.Machine.{Located}
use Rattle.language.specs.Parser.{Result, ok, fail, Parser, then, ◌>>=◌, give, unexpected, is_sign, goes_on, taken, branch, go_on, one, expect, opened, at_most, entries, single, tuple, set}
use Rattle.language.specs.Lines.{RawSymbol, RawDecoder, raw_word, raw_unary, raw_binary, RawTransition, Item, machine_item, input_item, kind_item, output_item, tapes_item, states_item, final_item, input_alphabet_item, tape_alphabet_item, blank_item, start_item, transition_item, Line, blank_line, comment_line, item_line, error_line, state_in, symbol_in, write_in, direction_in, not_direction, string_in, number_in, word_in, Keyword, machine_word, kind_word, input_word, output_word, tapes_word, states_word, sigma_word, gamma_word, blank_word, start_word, final_word, delta_word, keywords, kinds, OutputWord, word_output, unary_output, binary_output, outputs, orders, string_taken, string, choice, state, symbol, direction, read_entry, write_entry, transition, output, item_of, item, Row, Ending, line_feed, goes_by, remark, ending_of, in_front, rows, last_place, finished, empty_line, line_from, line_of, lines}
use Rattle.language.proofs.Every.{Every, Maybe, Filled, every_map}

-- a value as it is taken from a token
abbrev pub from : {P A : Type 0} → Token P → A → Located P A
from t a = record { value = a; place = t.place }

-- nothing is asked
abbrev pub Any : {A : Type 0} → A → Type 0
Any a = Unit {0}

pub any_maybe : {A : Type 0} (o : Option A) → Maybe Any o
any_maybe None = tt
any_maybe (Some a) = tt

-- a list with an entry, of good entries
abbrev pub EachOfSome : {A : Type 0} → (A → Type 0) → List A → Type 0
EachOfSome good l = Filled l × Every good l

-- a comment's text is good
abbrev pub GoodEnding : (List ℕ → Type 0) → Ending → Type 0
GoodEnding good line_feed = Unit {0}
GoodEnding good goes_by = Unit {0}
GoodEnding good (remark s) = good s

-- what holds of each name, string, symbol and comment
pub record Goods (P : Type 0) : Type 1 where
  pub name : Located P (List ℕ) → Type 0
  pub text : Located P (List ℕ) → Type 0
  pub sym : RawSymbol → Type 0
  pub note : Located P (List ℕ) → Type 0

module _ {P : Type 0} (S : Goods P) where
  -- a rule's names and symbols are good; it has a tape, and each of its read sets a member
  pub record GoodRaw (r : RawTransition P) : Type 0 where
    pub from_good : S.name r.from
    pub to_good : S.name r.to
    pub read_good : EachOfSome (EachOfSome (λ s. S.sym s.value)) r.read
    pub write_good : EachOfSome (λ w. Maybe S.sym w.value) r.write
    pub dir_good : Filled r.dir

  abbrev pub GoodDecoder : RawDecoder → Type 0
  GoodDecoder raw_word = Unit {0}
  GoodDecoder (raw_unary s) = S.sym s
  GoodDecoder (raw_binary o) = Unit {0}

  abbrev pub GoodItem : Item P → Type 0
  GoodItem (machine_item x) = S.text x.value
  GoodItem (input_item x) = S.text x.value
  GoodItem (kind_item x) = Unit {0}
  GoodItem (output_item x) = GoodDecoder x
  GoodItem (tapes_item x) = Unit {0}
  GoodItem (states_item x) = Every S.name x
  GoodItem (final_item x) = Every S.name x
  GoodItem (input_alphabet_item x) = Every (λ s. S.sym s.value) x
  GoodItem (tape_alphabet_item x) = Every (λ s. S.sym s.value) x
  GoodItem (blank_item x) = S.sym x
  GoodItem (start_item x) = S.name x
  GoodItem (transition_item x) = GoodRaw x

  abbrev pub GoodLine : Line P → Type 0
  GoodLine blank_line = Unit {0}
  GoodLine (comment_line c) = S.note c
  GoodLine (item_line i p c) = GoodItem i × Maybe S.note c
  GoodLine (error_line n p) = Unit {0}

-- `G`: what holds of each token
module _ {P : Type 0} (G : Token P → Type 0) where
  -- a parser's value is good, and the tokens behind it are what they were
  abbrev pub Good : {A : Type 0} → (A → Type 0) → Result P A → Type 0
  Good good (ok a ts) = good a × Every G ts
  Good good (fail n p) = Unit {0}

  pub record Gives {A : Type 0} (good : A → Type 0) (p : Parser P A) : Type 0 where
    pub gives : (ts : List (Token P)) → Every G ts → Good good (p ts)

  then_gives : {A B : Type 0} (good : A → Type 0) (fine : B → Type 0) (r : Result P A) (k : A → Parser P B) → Good good r → ((a : A) → good a → Gives fine (k a)) → Good fine (then r k)
  unfolding then
  then_gives good fine (ok a ts) k h e = (e a h.0).gives ts h.1
  then_gives good fine (fail n p) k h e = tt

  pub bind_gives : {A B : Type 0} {good : A → Type 0} {fine : B → Type 0} {p : Parser P A} (k : A → Parser P B) → Gives good p → ((a : A) → good a → Gives fine (k a)) → Gives fine (p >>= k)
  unfolding ◌>>=◌
  bind_gives {good = good} {fine = fine} {p = p} k e d = record { gives = λ ts h. then_gives good fine (p ts) k (e.gives ts h) d }

  pub give_gives : {A : Type 0} {good : A → Type 0} {a : A} → good a → Gives good (give a)
  give_gives h = record { gives = λ ts g. (h, g) }

  -- a view on a token gives good values
  abbrev pub Views : {A : Type 0} → (Located P A → Type 0) → (TokenKind → Option A) → Type 0
  Views {A} good view = (t : Token P) → G t → Maybe (λ a. good (from t a)) (view t.kind)

  any_views : {A : Type 0} (view : TokenKind → Option A) → Views Any view
  any_views view t g = any_maybe (view t.kind)

  module _ (stop : P) where
    taken_gives : {A : Type 0} (good : Located P A → Type 0) (o : Option A) (bad : TokenKind → ℕ) (t : Token P) (ts : List (Token P)) → Maybe (λ a. good (from t a)) o → Every G ts → Good good (taken o bad t ts)
    unfolding taken
    taken_gives good None bad t ts h g = tt
    taken_gives good (Some a) bad t ts h g = (h, g)

    one_g : {A : Type 0} (good : Located P A → Type 0) (view : TokenKind → Option A) (bad : TokenKind → ℕ) → Views good view → (ts : List (Token P)) → Every G ts → Good good (one stop view bad ts)
    unfolding one
    one_g good view bad e [] h = tt
    one_g good view bad e (t ∷ ts) h = taken_gives good (view t.kind) bad t ts (e t h.0) h.1

    pub one_gives : {A : Type 0} (good : Located P A → Type 0) (view : TokenKind → Option A) (bad : TokenKind → ℕ) → Views good view → Gives good (one stop view bad)
    one_gives good view bad e = record { gives = one_g good view bad e }

    pub any_gives : {A : Type 0} (view : TokenKind → Option A) (bad : TokenKind → ℕ) → Gives Any (one stop view bad)
    any_gives view bad = one_gives Any view bad (any_views view)

    branch_gives : {A : Type 0} (good : A → Type 0) {p q : Parser P A} (o : Option Bool) → Gives good p → Gives good q → (t : Token P) (ts : List (Token P)) → Every G (t ∷ ts) → Good good (branch o p q t ts)
    unfolding branch
    branch_gives good None d e t ts h = e.gives (t ∷ ts) h
    branch_gives good (Some b) d e t ts h = d.gives ts h.1

    opened_g : {A : Type 0} (good : A → Type 0) {p q : Parser P A} (c : ℕ) → Gives good p → Gives good q → (ts : List (Token P)) → Every G ts → Good good (opened stop c p q ts)
    unfolding opened
    opened_g good c d e [] h = e.gives [] h
    opened_g good c d e (t ∷ ts) h = branch_gives good (is_sign c t.kind) d e t ts h

    pub opened_gives : {A : Type 0} {good : A → Type 0} {p q : Parser P A} (c : ℕ) → Gives good p → Gives good q → Gives good (opened stop c p q)
    opened_gives {good = good} c d e = record { gives = opened_g good c d e }

    go_on_gives : {A : Type 0} {good : A → Type 0} {p : Parser P (List A)} (b : Bool) → Gives (EachOfSome good) p → (a : A) → good a → Gives (EachOfSome good) (go_on b p a)
    unfolding go_on
    go_on_gives true e a h = bind_gives _ e (λ l g. give_gives (tt, (h, g.1)))
    go_on_gives false e a h = give_gives (tt, (h, tt))

    most_gives : {A : Type 0} {good : A → Type 0} {p : Parser P A} → Gives good p → (c n : ℕ) → Gives (EachOfSome good) (at_most stop n p c)
    unfolding at_most
    most_gives e c zero = record { gives = λ ts h. tt }
    most_gives e c (suc n) = bind_gives _ e (λ a h. bind_gives _ (any_gives (goes_on c) unexpected) (λ b _. go_on_gives b.value (most_gives e c n) a h))

    pub entries_gives : {A : Type 0} {good : A → Type 0} {p : Parser P A} → Gives good p → (c : ℕ) → Gives (EachOfSome good) (entries stop p c)
    unfolding entries
    entries_gives e c = record { gives = λ ts h. (most_gives e c (length ts)).gives ts h }

    pub single_gives : {A : Type 0} {good : A → Type 0} {p : Parser P A} → Gives good p → Gives (EachOfSome good) (single stop p)
    unfolding single
    single_gives e = bind_gives _ e (λ a h. give_gives (tt, (h, tt)))

    pub tuple_gives : {A : Type 0} {good : A → Type 0} {p : Parser P A} → Gives good p → Gives (EachOfSome good) (tuple stop p)
    unfolding tuple
    tuple_gives e = opened_gives 0x28 (entries_gives e 0x29) (single_gives e)

    expect_gives : (c : ℕ) → Gives Any (expect stop c)
    unfolding expect
    expect_gives c = any_gives (is_sign c) unexpected

    some_every : {A : Type 0} (good : A → Type 0) (r : Result P (List A)) → Good (EachOfSome good) r → Good (Every good) r
    some_every good (ok a ts) h = (h.0.1, h.1)
    some_every good (fail n p) h = tt

    pub set_gives : {A : Type 0} {good : A → Type 0} {p : Parser P A} → Gives good p → Gives (Every good) (set stop p)
    unfolding set
    set_gives {good = good} {p = p} e =
        bind_gives _ (expect_gives 0x7B) (λ _ _. opened_gives 0x7D (give_gives tt) (record { gives = λ ts h. some_every good (entries stop p 0x7D ts) ((entries_gives e 0x7D).gives ts h) }))

  -- ---- items: `name-view` and the like say what the tokens give
  module _ (S : Goods P) (name_view : Views S.name state_in) (sym-view : Views (λ s. S.sym s.value) symbol_in)
      (text_view : (t : Token P) → G t → Maybe (λ s. S.text (record { value = s; place = t.inner })) (string_in t.kind))
      (note_view : (t : Token P) → G t → GoodEnding (λ s. S.note (record { value = s; place = t.inner })) (ending_of t.kind)) where
    module _ (stop : P) where
      string_taken_lem : (o : Option (List ℕ)) (t : Token P) (ts : List (Token P)) → Maybe (λ s. S.text (record { value = s; place = t.inner })) o → Every G ts → Good (λ x. S.text x.value) (string_taken o t ts)
      unfolding string_taken
      string_taken_lem None t ts h g = tt
      string_taken_lem (Some s) t ts h g = (h, g)

      string_g : (ts : List (Token P)) → Every G ts → Good (λ x. S.text x.value) (string stop ts)
      unfolding string
      string_g [] h = tt
      string_g (t ∷ ts) h = string_taken_lem (string_in t.kind) t ts (text_view t h.0) h.1

      string_gives : Gives (λ x. S.text x.value) (string stop)
      string_gives = record { gives = string_g }

      state_gives : Gives S.name (state stop)
      unfolding state
      state_gives = one_gives stop S.name state_in unexpected name_view

      symbol_gives : Gives (λ s. S.sym s.value) (symbol stop)
      unfolding symbol
      symbol_gives = one_gives stop (λ s. S.sym s.value) symbol_in unexpected sym-view

      read_gives : Gives (EachOfSome (λ s. S.sym s.value)) (read_entry stop)
      unfolding read_entry
      read_gives = opened_gives stop 0x7B (entries_gives stop symbol_gives 0x7D) (single_gives stop symbol_gives)

      star_or : (t : Token P) (o : Option Bool) (u : Option RawSymbol) → Maybe S.sym u
          → Maybe (Maybe S.sym) (elim o [ Some b ↦ Some None | None ↦ elim u [ Some s ↦ Some (Some s) | None ↦ None ] ])
      star_or t (Some b) u h = tt
      star_or t None None h = tt
      star_or t None (Some s) h = h

      write_view : Views (λ w. Maybe S.sym w.value) write_in
      unfolding write_in
      write_view t g = star_or t (is_sign 0x2A t.kind) (symbol_in t.kind) (sym-view t g)

      write_gives : Gives (λ w. Maybe S.sym w.value) (write_entry stop)
      unfolding write_entry
      write_gives = one_gives stop (λ w. Maybe S.sym w.value) write_in unexpected write_view

      direction_gives : Gives Any (direction stop)
      unfolding direction
      direction_gives = any_gives stop direction_in not_direction

      choice_gives : {A : Type 0} (l : List (List ℕ × A)) → Gives Any (choice stop l)
      unfolding choice
      choice_gives l = any_gives stop (word_in l) unexpected

      transition_gives : Gives (GoodRaw S) (transition stop)
      unfolding transition
      transition_gives =
          bind_gives _ (expect_gives stop 0x28) (λ _ _. bind_gives _ state_gives (λ from f. bind_gives _ (expect_gives stop 0x2C) (λ _ _.
          bind_gives _ (tuple_gives stop read_gives) (λ read r. bind_gives _ (expect_gives stop 0x29) (λ _ _. bind_gives _ (expect_gives stop 0x3D) (λ _ _.
          bind_gives _ (expect_gives stop 0x28) (λ _ _. bind_gives _ state_gives (λ to t. bind_gives _ (expect_gives stop 0x2C) (λ _ _.
          bind_gives _ (tuple_gives stop write_gives) (λ write w. bind_gives _ (expect_gives stop 0x2C) (λ _ _. bind_gives _ (tuple_gives stop direction_gives) (λ dir d.
          bind_gives _ (expect_gives stop 0x29) (λ _ _. give_gives (record { from_good = f; to_good = t; read_good = r; write_good = w; dir_good = d.0 }))))))))))))))

      output_gives : (w : OutputWord) → Gives (GoodDecoder S) (output stop w)
      unfolding output
      output_gives word_output = give_gives tt
      output_gives unary_output = bind_gives _ symbol_gives (λ s h. give_gives h)
      output_gives binary_output = bind_gives _ (choice_gives orders) (λ o _. give_gives tt)

      item_of_gives : (k : Keyword) → Gives (GoodItem S) (item_of stop k)
      unfolding item_of
      item_of_gives machine_word = bind_gives _ string_gives (λ s h. give_gives h)
      item_of_gives kind_word = bind_gives _ (choice_gives kinds) (λ k _. give_gives tt)
      item_of_gives input_word = bind_gives _ string_gives (λ s h. give_gives h)
      item_of_gives output_word = bind_gives _ (choice_gives outputs) (λ w _. bind_gives _ (output_gives w.value) (λ o h. give_gives h))
      item_of_gives tapes_word = bind_gives _ (expect_gives stop 0x3D) (λ _ _. bind_gives _ (any_gives stop number_in unexpected) (λ n _. give_gives tt))
      item_of_gives states_word = bind_gives _ (expect_gives stop 0x3D) (λ _ _. bind_gives _ (set_gives stop state_gives) (λ q h. give_gives h))
      item_of_gives sigma_word = bind_gives _ (expect_gives stop 0x3D) (λ _ _. bind_gives _ (set_gives stop symbol_gives) (λ q h. give_gives h))
      item_of_gives gamma_word = bind_gives _ (expect_gives stop 0x3D) (λ _ _. bind_gives _ (set_gives stop symbol_gives) (λ q h. give_gives h))
      item_of_gives blank_word = bind_gives _ (expect_gives stop 0x3D) (λ _ _. bind_gives _ symbol_gives (λ s h. give_gives h))
      item_of_gives start_word = bind_gives _ (expect_gives stop 0x3D) (λ _ _. bind_gives _ state_gives (λ q h. give_gives h))
      item_of_gives final_word = bind_gives _ (expect_gives stop 0x3D) (λ _ _. bind_gives _ (set_gives stop state_gives) (λ q h. give_gives h))
      item_of_gives delta_word = bind_gives _ transition_gives (λ r h. give_gives h)

      pub item_gives : Gives (GoodItem S) (item stop)
      unfolding item
      item_gives = bind_gives _ (choice_gives keywords) (λ k _. item_of_gives k.value)

    -- ---- lines

    -- a row of good tokens with a good comment
    abbrev GoodRow : Row P → Type 0
    GoodRow r = Every G r.body × Maybe S.note r.comment

    front_good : (e : Ending) (t : Token P) (rs : List (Row P)) → G t → GoodEnding (λ s. S.note (record { value = s; place = t.inner })) e → Every GoodRow rs → Every GoodRow (in_front e t rs)
    unfolding in_front
    front_good line_feed t rs g n h = ((tt, tt), h)
    front_good goes_by t [] g n h = tt
    front_good goes_by t (r ∷ rs) g n h = (((g, h.0.0), h.0.1), h.1)
    front_good (remark s) t [] g n h = tt
    front_good (remark s) t (r ∷ rs) g n h = ((tt, n), h.1)

    rows_good : (ts : List (Token P)) → Every G ts → Every GoodRow (rows ts)
    unfolding rows
    rows_good [] h = tt
    rows_good (t ∷ ts) h = front_good (ending_of t.kind) t (rows ts) h.0 (note_view t h.0) (rows_good ts h.1)

    empty_good : (c : Option (Located P (List ℕ))) → Maybe S.note c → GoodLine S (empty_line c)
    unfolding empty_line
    empty_good None h = tt
    empty_good (Some c) h = h

    finished_good : (p : P) (c : Option (Located P (List ℕ))) (r : Result P (Item P)) → Maybe S.note c → Good (GoodItem S) r → GoodLine S (finished p c r)
    unfolding finished
    finished_good p c (ok i []) n h = (h.0, n)
    finished_good p c (ok i (t ∷ ts)) n h = tt
    finished_good p c (fail k q) n h = tt

    module _ (◌⋯◌ : P → P → P) where
      from_good : (ts : List (Token P)) (stop : P) (c : Option (Located P (List ℕ))) → Every G ts → Maybe S.note c → GoodLine S (line_from ◌⋯◌ ts stop c)
      unfolding line_from
      from_good [] stop c h n = empty_good c n
      from_good (t ∷ ts) stop c h n = finished_good (◌⋯◌ t.place (last_place t.place ts)) c (item stop (t ∷ ts)) n ((item_gives stop).gives (t ∷ ts) h)

      -- the lines of good tokens are good
      pub lines_good : (ts : List (Token P)) → Every G ts → Every (GoodLine S) (lines ◌⋯◌ ts)
      unfolding lines line_of
      lines_good ts h = every_map GoodRow (GoodLine S) (line_of ◌⋯◌) (λ r g. from_good r.body r.stop r.comment g.0 g.1) (rows ts) (rows_good ts h)
