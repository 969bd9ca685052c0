-- The elements of an item over the row are those of the language, and their values are what is seen in their tokens.
use Rattle.diag.specs.declared.Code.TheVariants.{NoDirection}
use Rattle.std.specs.Prelude.{Err, Option, None, Some}
use mathlib.Core.Path.{◌≡◌, refl, sym, ap, ◌∙◌}
use Prim.Native.Nat.{ℕ, ◌+◌}
use native.Mathlib.Omega.{arith}
use mathlib.Core.Bool.{Bool, true, false, cond}
use mathlib.Core.List.{List, [], ◌∷◌, ◌++◌}
use lib.ListN.{length}
use Rattle.lexer.specs.Tokens.{TokenKind, sign, comment, newline, Span, Token}
use Rattle.language.specs.Machine.{Located}
use Rattle.language.specs.Parser.{Result, ok, fail, Parser, unexpected, sign_in, is_sign, ◌>>=◌}
use Rattle.language.specs.Parser.{one as token, entries as listed, single, tuple as tupled, set as braced, taken}
use Rattle.language.specs.Lines.{RawSymbol, Text, state_in, symbol_in, bracket, write_in, direction_in, not_direction, string_in, number_in, word_in, kinds, outputs, orders, string_taken, string, numeral, choice, state, symbol, direction as directed, read_entry as read_one, write_entry}
use Rattle.parser.specs.Views.{is_kind, is_choice, is_state, is_symbol, is_write, is_direction, is_text}
use Rattle.parser.specs.Lines.{Parsed, Done, then, code_of, one, direction, entries, set, tuple, read_entry}
use Rattle.parser.specs.Meaning.{seen_on, seen, text_of, ReadPart, opens, closes, passes, reads, read_part, joins, outside, inside, read_sets}
use Rattle.tokens.specs.declared.Token.{Token as Words}
use Rattle.parser.proofs.Lists.{Steps, state_steps, symbol_steps, read_steps, write_steps, direction_steps}
use Rattle.parser.proofs.Tables.{true_false}
use Rattle.parser.proofs.Views.{is_some, names_l_brace, names_r_brace, Sees, sees_string, sees_number, sees_state, sees_symbol, sees_write, sees_direction, text_view, code_view}
use Rattle.parser.proofs.Keywords.{sees_kind, sees_output, sees_order}
use Rattle.parser.proofs.Simulates.{Stops, Fits, one_tests, direction_tests, Quiet, One, once, pushes, is_sign_lem, At, row, token_fits, entries_fits, Listing, map_fits, weaken_fits, opened_fits, Reading, tuple_fits, set_fits}

quietly : {A : Type 0} {view : TokenKind → Option A} → view newline ≡ None → ((s : List ℕ) → view (comment s) ≡ None) → Quiet view unexpected
unfolding unexpected
quietly e f = record { at_newline = e; at-comment = f; bad_newline = refl; bad_comment = λ s. refl }

-- ---- what is seen in some tokens
pub seen_one : {A : Type 0} (view : TokenKind → Option A) (f g : List (Token Span)) (a : Located Span A) → One view f a → seen view (f ++ g) ≡ a ∷ seen view g
unfolding seen seen_on
seen_one {A} view f g a o =
    ap (λ (x : List (Token Span)). seen view (x ++ g)) o.front ∙ ap (λ (x : Option A). seen_on x o.taker.place (seen view g)) o.says ∙
    ap (λ (p : Span). record { value = a.value; place = p } ∷ seen view g) o.there

pub seen_past : {A : Type 0} (view : TokenKind → Option A) (c : ℕ) → view (sign c) ≡ None → (t : Token Span) (g : List (Token Span)) → t.kind ≡ sign c → seen view (t ∷ g) ≡ seen view g
unfolding seen seen_on
seen_past {A} view c e t g k = ap (λ (x : Option A). seen_on x t.place (seen view g)) (ap view k ∙ e)

pub pushes_append : {A : Type 0} (l m : List A) → pushes (λ a b. a ∷ b) l m ≡ l ++ m
pushes_append [] m = refl
pushes_append (a ∷ l) m = ap (λ (x : List _). a ∷ x) (pushes_append l m)

-- ---- what is read
no_symbol : {X : Type 0} (k : TokenKind) (c : ℕ) (s : RawSymbol) → symbol_in (sign c) ≡ None → is_some (is_sign c k) ≡ true → symbol_in k ≡ Some s → X
no_symbol k c s e p q = true_false (sym (ap is_some (sym e ∙ sym (ap symbol_in (is_sign_lem c k p)) ∙ q)))

part-symbol : (k : TokenKind) (s : RawSymbol) → symbol_in k ≡ Some s → read_part k ≡ reads s
unfolding read_part symbol_in bracket
part-symbol k s e = go (is_sign 0x7B k) (is_sign 0x7D k) (symbol_in k) refl refl e
  where
    go : (a b : Option Bool) (o : Option RawSymbol) → is_sign 0x7B k ≡ a → is_sign 0x7D k ≡ b → o ≡ Some s
        → elim a [ Some _ ↦ opens | None ↦ elim b [ Some _ ↦ closes | None ↦ elim o [ Some s ↦ reads s | None ↦ passes ] ] ] ≡ reads s
    go (Some x) b o p q r = no_symbol k 0x7B s refl (ap is_some p) e
    go None (Some x) o p q r = no_symbol k 0x7D s refl (ap is_some q) e
    go None None None p q r = true_false (sym (ap is_some r))
    go None None (Some v) p q r = let h : v ≡ s = cc in ap reads h

pub reads-symbol : (f g : List (Token Span)) (a : Located Span RawSymbol) → One symbol_in f a → read_sets false (f ++ g) ≡ (a ∷ []) ∷ read_sets false g
unfolding read_sets outside
reads-symbol f g a o =
    ap (λ (x : List (Token Span)). read_sets false (x ++ g)) o.front ∙
    ap (λ (x : ReadPart). outside x o.taker.place (read_sets false g) (read_sets true g)) (part-symbol o.taker.kind a.value o.says) ∙
    ap (λ (p : Span). (record { value = a.value; place = p } ∷ []) ∷ read_sets false g) o.there

joins-symbol : (f g : List (Token Span)) (a : Located Span RawSymbol) → One symbol_in f a → read_sets true (f ++ g) ≡ joins a (read_sets true g)
unfolding read_sets inside
joins-symbol f g a o =
    ap (λ (x : List (Token Span)). read_sets true (x ++ g)) o.front ∙
    ap (λ (x : ReadPart). inside x o.taker.place (read_sets false g) (read_sets true g)) (part-symbol o.taker.kind a.value o.says) ∙
    ap (λ (p : Span). joins (record { value = a.value; place = p }) (read_sets true g)) o.there

pub reads_past : (c : ℕ) → read_part (sign c) ≡ passes → (t : Token Span) (g : List (Token Span)) → t.kind ≡ sign c → read_sets false (t ∷ g) ≡ read_sets false g
unfolding read_sets outside
reads_past c e t g k = ap (λ (x : ReadPart). outside x t.place (read_sets false g) (read_sets true g)) (ap read_part k ∙ e)

joins_past : (c : ℕ) → read_part (sign c) ≡ passes → (t : Token Span) (g : List (Token Span)) → t.kind ≡ sign c → read_sets true (t ∷ g) ≡ read_sets true g
unfolding read_sets inside
joins_past c e t g k = ap (λ (x : ReadPart). inside x t.place (read_sets false g) (read_sets true g)) (ap read_part k ∙ e)

reads_opens : (t : Token Span) (g : List (Token Span)) → t.kind ≡ sign 0x7B → read_sets false (t ∷ g) ≡ read_sets true g
unfolding read_sets outside read_part is_sign sign_in
reads_opens t g k = ap (λ (x : TokenKind). outside (read_part x) t.place (read_sets false g) (read_sets true g)) k

joins_closes : (t : Token Span) (g : List (Token Span)) → t.kind ≡ sign 0x7D → read_sets true (t ∷ g) ≡ [] ∷ read_sets false g
unfolding read_sets inside read_part is_sign sign_in
joins_closes t g k = ap (λ (x : TokenKind). inside (read_part x) t.place (read_sets false g) (read_sets true g)) k

joins-all : (l : List (Located Span RawSymbol)) (m : List (List (Located Span RawSymbol))) → pushes joins l ([] ∷ m) ≡ l ∷ m
unfolding joins
joins-all [] m = refl
joins-all (a ∷ l) m = ap (joins a) (joins-all l m)

pub part-comma : read_part (sign 0x2C) ≡ passes
unfolding read_part is_sign sign_in symbol_in bracket
part-comma = refl

pub part_l_paren : read_part (sign 0x28) ≡ passes
unfolding read_part is_sign sign_in symbol_in bracket
part_l_paren = refl

pub part_r_paren : read_part (sign 0x29) ≡ passes
unfolding read_part is_sign sign_in symbol_in bracket
part_r_paren = refl

pub part-eq : read_part (sign 0x3D) ≡ passes
unfolding read_part is_sign sign_in symbol_in bracket
part-eq = refl

-- a string's token
pub record Texts (f : List (Token Span)) (a : Text Span) : Type 0 where
  pub taker : Token Span
  pub front : f ≡ taker ∷ []
  pub says : a ≡ text_of taker

-- a set counts as one entry
pub recount_fits : {A : Type 0} (M : List (Token Span) → A → Type 0) (count : A → ℕ) (i : ℕ) (l : List (Token Span)) (x : Parsed ℕ) (y : Result Span A) → Fits i l M count x y → Fits i l M once (then x λ j _. Done j 1) y
unfolding then
recount_fits M count i l (Err bad) (fail d q) h = h
recount_fits M count i l (Err bad) (ok a r) h = absurd h
recount_fits M count i l (Done j m) (fail d q) h = absurd h
recount_fits M count i l (Done j m) (ok a r) (f, e, k, c, w) = (f, e, k, refl, w)

module _ (ts : List (Token Span)) (junk : List Words) (z : Token Span) (more : List (Token Span)) (ends : Stops z.kind) where
  abbrev ws : List Words
  ws = row ts junk z more

  abbrev Here : ℕ → List (Token Span) → Type 0
  Here = At ts junk z more

  -- one token by a test and a view, with the codes of all tokens
  viewed_fits : {A : Type 0} (f : Words → Bool) (view : TokenKind → Option A) → Sees f view → Quiet view unexpected → (i : ℕ) (l : List (Token Span)) → Here i l
      → Fits i l (One view) once (one f ws i) (token z.place view unexpected l)
  viewed_fits f view sees quiet i l here = token_fits ts junk z more ends (one f) f code_of view unexpected (one_tests f) sees code_view quiet i l here

  pub state_fits : (i : ℕ) (l : List (Token Span)) → Here i l → Fits i l (One state_in) once (one is_state ws i) (state z.place l)
  unfolding state state_in
  state_fits = viewed_fits is_state state_in sees_state (quietly refl (λ s. refl))

  pub symbol_fits : (i : ℕ) (l : List (Token Span)) → Here i l → Fits i l (One symbol_in) once (one is_symbol ws i) (symbol z.place l)
  unfolding symbol symbol_in
  symbol_fits = viewed_fits is_symbol symbol_in sees_symbol (quietly refl (λ s. refl))

  pub write_fits : (i : ℕ) (l : List (Token Span)) → Here i l → Fits i l (One write_in) once (one is_write ws i) (write_entry z.place l)
  unfolding write_entry write_in is_sign sign_in symbol_in
  write_fits = viewed_fits is_write write_in sees_write (quietly refl (λ s. refl))

  pub number_fits : (i : ℕ) (l : List (Token Span)) → Here i l → Fits i l (One number_in) once (one (is_kind 1) ws i) (numeral z.place l)
  unfolding numeral number_in
  number_fits = viewed_fits (is_kind 1) number_in sees_number (quietly refl (λ s. refl))

  pub kind_fits : (i : ℕ) (l : List (Token Span)) → Here i l → Fits i l (One (word_in kinds)) once (one (is_choice 0x110010 0x110013) ws i) (choice z.place kinds l)
  unfolding choice word_in
  kind_fits = viewed_fits (is_choice 0x110010 0x110013) (word_in kinds) sees_kind (quietly refl (λ s. refl))

  pub output_fits : (i : ℕ) (l : List (Token Span)) → Here i l → Fits i l (One (word_in outputs)) once (one (is_choice 0x110014 0x110016) ws i) (choice z.place outputs l)
  unfolding choice word_in
  output_fits = viewed_fits (is_choice 0x110014 0x110016) (word_in outputs) sees_output (quietly refl (λ s. refl))

  pub order_fits : (i : ℕ) (l : List (Token Span)) → Here i l → Fits i l (One (word_in orders)) once (one (is_choice 0x110017 0x110018) ws i) (choice z.place orders l)
  unfolding choice word_in
  order_fits = viewed_fits (is_choice 0x110017 0x110018) (word_in orders) sees_order (quietly refl (λ s. refl))

  pub direction_fits : (i : ℕ) (l : List (Token Span)) → Here i l → Fits i l (One direction_in) once (direction ws i) (directed z.place l)
  unfolding directed direction_in not_direction
  direction_fits =
      token_fits ts junk z more ends direction is_direction (λ t. cond (is_text t) NoDirection (code_of t)) direction_in not_direction direction_tests sees_direction text_view
      (record { at_newline = refl; at-comment = λ s. refl; bad_newline = refl; bad_comment = λ s. refl })

  pub string_fits : (i : ℕ) (l : List (Token Span)) → Here i l → Fits i l Texts once (one (is_kind 3) ws i) (string z.place l)
  unfolding string string_taken string_in token taken
  string_fits i l here = go l (one (is_kind 3) ws i) (viewed_fits (is_kind 3) string_in sees_string (quietly refl (λ s. refl)) i l here)
    where
      of : (t : Token Span) (r : List (Token Span)) (o : Option (List ℕ)) → string_in t.kind ≡ o → (x : Parsed ℕ)
          → Fits i (t ∷ r) (One string_in) once x (taken o unexpected t r) → Fits i (t ∷ r) Texts once x (string_taken o t r)
      of t r None e (Err bad) h = h
      of t r None e (Done j m) h = absurd h
      of t r (Some v) e (Err bad) h = absurd h
      of t r (Some v) e (Done j m) (f, q, k, c, w) =
          let h : t ∷ r ≡ w.taker ∷ r = q ∙ ap (λ (x : List (Token Span)). x ++ r) w.front in
          let b : w.taker ≡ t = cc in
          (f, q, k, c, record { taker = t; front = w.front ∙ ap (λ (x : Token Span). x ∷ []) b; says = rw e })

      go : (l : List (Token Span)) (x : Parsed ℕ) → Fits i l (One string_in) once x (token z.place string_in unexpected l) → Fits i l Texts once x (string z.place l)
      go [] (Err bad) h = h
      go [] (Done j m) h = absurd h
      go (t ∷ r) x h = of t r (string_in t.kind) refl x h

  -- ---- what a rule reads on one tape
  abbrev pub Entry : List (Token Span) → List (Located Span RawSymbol) → Type 0
  Entry f a = (g : List (Token Span)) → read_sets false (f ++ g) ≡ a ∷ read_sets false g

  pub read_entry_fits : (i : ℕ) (l : List (Token Span)) → Here i l → Fits i l Entry once (read_entry ws i) (read_one z.place l)
  unfolding read_entry read_one single ◌>>=◌
  read_entry_fits i l here =
      opened_fits ts junk z more ends 0x7B 6 names_l_brace Entry once i l here
      (then (entries (one is_symbol) 7 ws (i + 1) 0) λ j _. Done j 1) (one is_symbol ws i) (listed z.place (symbol z.place) 0x7D) (single z.place (symbol z.place))
      (λ t r e k at₁.
      let L = Listing ts junk z more ends (one is_symbol) symbol_steps (symbol z.place) (One symbol_in) symbol_fits refl 0x7D 7 (omega arith) names_r_brace
      (read_sets true) (λ g. [] ∷ read_sets false g) joins joins-symbol (joins_past 0x2C part-comma) joins_closes in
      recount_fits (λ f a. Entry (t ∷ f) a) length (i + 1) r (entries (one is_symbol) 7 ws (i + 1) 0) (listed z.place (symbol z.place) 0x7D r)
      (weaken_fits ts junk z more ends L (λ f a. Entry (t ∷ f) a) length (i + 1) r
      (λ f a M g. reads_opens t (f ++ g) k ∙ M g ∙ joins-all a (read_sets false g))
      (entries (one is_symbol) 7 ws (i + 1) 0) (listed z.place (symbol z.place) 0x7D r)
      (entries_fits ts junk z more ends (one is_symbol) symbol_steps (symbol z.place) (One symbol_in) symbol_fits refl 0x7D 7 (omega arith) names_r_brace
      (read_sets true) (λ g. [] ∷ read_sets false g) joins joins-symbol (joins_past 0x2C part-comma) joins_closes (i + 1) r at₁)))
      (map_fits ts junk z more ends (One symbol_in) once Entry once i l (λ a. a ∷ []) (λ f r a e o g. reads-symbol f g a o) (λ a. refl) (one is_symbol ws i) (symbol z.place l) (symbol_fits i l here))

  -- ---- sets and tuples of what a view sees
  module _ {A : Type 0} (view : TokenKind → Option A) (p : List Words → ℕ → Parsed ℕ) (steps : Steps p) (P : Parser Span (Located Span A))
      (fits : (i : ℕ) (l : List (Token Span)) → Here i l → Fits i l (One view) once (p ws i) (P l)) (stopped : P [] ≡ fail 1 z.place) where
    abbrev pub Seen : List (Token Span) → List (Located Span A) → Type 0
    Seen f l = (g : List (Token Span)) → seen view (f ++ g) ≡ l ++ seen view g

    abbrev Pushed : List (Token Span) → List (Located Span A) → Type 0
    Pushed = Reading ts junk z more ends p steps P (One view) fits stopped (seen view) (λ a b. a ∷ b) (seen_one view)

    seen-set_fits : view (sign 0x2C) ≡ None → view (sign 0x7B) ≡ None → view (sign 0x7D) ≡ None → (i : ℕ) (l : List (Token Span)) → Here i l
        → Fits i l Seen length (set p ws i) (braced z.place P l)
    seen-set_fits a b c i l here =
        weaken_fits ts junk z more ends Pushed Seen length i l (λ f v M g. M g ∙ pushes_append v (seen view g)) (set p ws i) (braced z.place P l)
        (set_fits ts junk z more ends p steps P (One view) fits stopped (seen view) (λ a b. a ∷ b) (seen_one view)
        (seen_past view 0x2C a) (seen_past view 0x7B b) (seen_past view 0x7D c) i l here)

    seen-tuple_fits : view (sign 0x2C) ≡ None → view (sign 0x28) ≡ None → view (sign 0x29) ≡ None → (i : ℕ) (l : List (Token Span)) → Here i l
        → Fits i l Seen length (tuple p ws i) (tupled z.place P l)
    seen-tuple_fits a b c i l here =
        weaken_fits ts junk z more ends Pushed Seen length i l (λ f v M g. M g ∙ pushes_append v (seen view g)) (tuple p ws i) (tupled z.place P l)
        (tuple_fits ts junk z more ends p steps P (One view) fits stopped (seen view) (λ a b. a ∷ b) (seen_one view)
        (seen_past view 0x2C a) (seen_past view 0x28 b) (seen_past view 0x29 c) i l here)

  -- what a view says of the tokens f is v, with any tokens behind them
  abbrev pub Says : {A : Type 0} → (TokenKind → Option A) → List (Token Span) → List (Located Span A) → Type 0
  Says view f v = (g : List (Token Span)) → seen view (f ++ g) ≡ v ++ seen view g

  pub states_fits : (i : ℕ) (l : List (Token Span)) → Here i l → Fits i l (Says state_in) length (set (one is_state) ws i) (braced z.place (state z.place) l)
  unfolding state state_in
  states_fits = seen-set_fits state_in (one is_state) state_steps (state z.place) state_fits refl refl refl refl

  pub symbols_fits : (i : ℕ) (l : List (Token Span)) → Here i l → Fits i l (Says symbol_in) length (set (one is_symbol) ws i) (braced z.place (symbol z.place) l)
  unfolding symbol symbol_in bracket
  symbols_fits = seen-set_fits symbol_in (one is_symbol) symbol_steps (symbol z.place) symbol_fits refl refl refl refl

  pub writes_fits : (i : ℕ) (l : List (Token Span)) → Here i l → Fits i l (Says write_in) length (tuple (one is_write) ws i) (tupled z.place (write_entry z.place) l)
  unfolding write_entry write_in is_sign sign_in symbol_in bracket
  writes_fits = seen-tuple_fits write_in (one is_write) write_steps (write_entry z.place) write_fits refl refl refl refl

  pub directions_fits : (i : ℕ) (l : List (Token Span)) → Here i l → Fits i l (Says direction_in) length (tuple direction ws i) (tupled z.place (directed z.place) l)
  unfolding directed direction_in
  directions_fits = seen-tuple_fits direction_in direction direction_steps (directed z.place) direction_fits refl refl refl refl

  -- the read sets of the tokens f are v, with any tokens behind them
  abbrev pub Reads : List (Token Span) → List (List (Located Span RawSymbol)) → Type 0
  Reads f v = (g : List (Token Span)) → read_sets false (f ++ g) ≡ v ++ read_sets false g

  pub reads_fits : (i : ℕ) (l : List (Token Span)) → Here i l → Fits i l Reads length (tuple read_entry ws i) (tupled z.place (read_one z.place) l)
  unfolding read_one
  reads_fits i l here =
      weaken_fits ts junk z more ends
      (Reading ts junk z more ends read_entry read_steps (read_one z.place) Entry read_entry_fits refl (read_sets false) (λ a b. a ∷ b) (λ f g a e. e g))
      Reads length i l (λ f v M g. M g ∙ pushes_append v (read_sets false g)) (tuple read_entry ws i) (tupled z.place (read_one z.place) l)
      (tuple_fits ts junk z more ends read_entry read_steps (read_one z.place) Entry read_entry_fits refl (read_sets false) (λ a b. a ∷ b) (λ f g a e. e g)
      (reads_past 0x2C part-comma) (reads_past 0x28 part_l_paren) (reads_past 0x29 part_r_paren) i l here)
