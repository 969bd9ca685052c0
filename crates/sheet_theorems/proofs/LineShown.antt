-- One line of the row of a text shows the language's line: what was parsed still stands in its tokens, or in the entry and the
-- two tokens that hold a rule's parts.
use Rattle.std.specs.Prelude.{Err, Option, None, Some}
use mathlib.Core.Path.{◌≡◌, refl, sym, ap, subst, ◌∙◌}
use mathlib.Core.Bool.{Bool, true, false}
use mathlib.Core.List.{List, [], ◌∷◌, ◌++◌, map, append-nil}
use Prim.Native.Nat.{ℕ, suc, ◌+◌, ◌-◌, ◌≤◌, ◌<◌, ◌^◌}
use native.Mathlib.Omega.{arith}
use native.Mathlib.Nat.{min-eq_left}
use borrow.Author.Tests.{ne_eqb, eqb-true, eqb-false}
use lib.Dec.{eqb}
use lib.ListN.{length, take, drop}
use lib.Seq.{get_or-drop, drop-drop}
use Rattle.diag.proofs.Cases.{by_test_lem}
use Rattle.diag.specs.declared.Span.{Span as Place}
use Rattle.lexer.specs.Tokens.{Token as Lexed}
use Rattle.lexer.proofs.Steps.{Good}
use Rattle.lexer.proofs.Placed.{Placed, All}
use Rattle.tokens.specs.declared.Token.{Token}
use Rattle.parser.specs.declared.Parts.{Parts}
use Rattle.parser.specs.declared.ItemKind.{ItemKind}
use Rattle.parser.specs.declared.ItemKind.TheVariants.{Machine, Kind, Input, Output, Tapes, States, InputAlphabet, TapeAlphabet, Blank, Start, Final, Transition}
use Rattle.parser.specs.declared.Lead.TheVariants.{Equals}
use Rattle.parser.specs.declared.Item.{Item as Found}
use Rattle.parser.specs.Row.{peek, ended}
use Rattle.parser.specs.Views.{is_kind, is_state, is_symbol, is_write, is_direction, lead_of}
use Rattle.parser.specs.Lines.{Answer, Empty, Comment, Read, one, direction, is_comment, line, newline_at}
use Rattle.parser.specs.Meaning.{token_of, at, between, located, or_else, text_of, Sound, seen, read_sets, rule_of, item_means, comment_of, own_comment, line_means, AllLexed}
use Rattle.parser.proofs.Views.{is_some, sees_symbol, sees_write, sees_direction}
use Rattle.language.specs.Machine.{Located}
use Rattle.language.specs.Lines.{RawSymbol, raw_blank, RawTransition, Text, Item, machine_item, input_item, kind_item, output_item, tapes_item, states_item, final_item, input_alphabet_item, tape_alphabet_item, blank_item, start_item, transition_item, Line, blank_line, comment_line, item_line, error_line, state_in, symbol_in, write_in, direction_in}
use Rattle.language.specs.Assembly as A
use Rattle.assembler.specs.Rows.{place_of}
use Rattle.assembler.specs.Entries.{entry_at}
use Rattle.assembler.specs.Entered.{item_number, item_entry, failed_entry, counts_of, parts_of, enter_as, enter_line, entered_from}
use Rattle.assembler.specs.Rules.{combinations, read_part}
use Rattle.assembler.specs.Finals.{names_of}
use Rattle.assembler.proofs.Braces.{balanced, false_true, one_done}
use Rattle.assembler.proofs.Inside.{PartsIn, LineIn, line_in, done_within, dirs_steps, writes_steps}
use Rattle.assembler.proofs.SetsMean.{AllSound}
use Rattle.assembler.proofs.NamesMean.{seen-append, seen_none}
use Rattle.assembler.proofs.EntriesMean as M
use Rattle.assembler.proofs.EntriesMean.{Tokens, all_take, all_drop, sound_all, all_sound, peek-map, drop-map, take-map, between_split, between-one, between_none}
use Rattle.language.specs.Layout.{place_words}
use Rattle.sheet.specs.Comments.{text_words}
use Rattle.sheet.specs.Rules.{resolve, first_entry, sets_of, read_tokens}
use Rattle.sheet.specs.Wheels as S
use Rattle.sheet_theorems.proofs.Shows.{Both, SymbolShows, WriteShows, MoveShows, every_second, RuleShows, RuleOf, range, StateShows, TextShows, SymbolsShow, WritesShow, ReadsShow, MentionsShow, Mentions, ItemParsed, CommentShows, ItemShows, Shows}
use Rattle.sheet_theorems.proofs.TokensShow.{place_shown, symbol_shown, write_shown, move_shown, comment_shown}
use Rattle.sheet_theorems.proofs.ListsShown.{direction-takes, RowOf, tuple_shown}
use Rattle.sheet_theorems.proofs.ReadsShown.{other-symbol, passed, reads_shown}
use Rattle.sheet_theorems.proofs.MentionsShown.{symbols-show, writes-show, reads-show, state_shows, text_shows}
use Rattle.sheet_theorems.proofs.ItemTaken.{Taken, item-taken}
use Rattle.sheet_theorems.proofs.LineTokens as T
use Rattle.sheet_theorems.proofs.LineTokens.{stretch, by_rule}

-- ---- rules that expand: as many written and as many moves as read, and no more rules than the limit
pub record Expands (r : RawTransition Place) : Type 0 where
  pub writes : length r.write ≡ length r.read
  pub dirs : length r.dir ≡ length r.read
  pub few : A.combinations r.read ≤ 262144

abbrev pub ExpandsItem : Item Place → Type 0
ExpandsItem (transition_item r) = Expands r
ExpandsItem (machine_item x) = Unit {0}
ExpandsItem (kind_item x) = Unit {0}
ExpandsItem (input_item x) = Unit {0}
ExpandsItem (output_item x) = Unit {0}
ExpandsItem (tapes_item x) = Unit {0}
ExpandsItem (states_item x) = Unit {0}
ExpandsItem (input_alphabet_item x) = Unit {0}
ExpandsItem (tape_alphabet_item x) = Unit {0}
ExpandsItem (blank_item x) = Unit {0}
ExpandsItem (start_item x) = Unit {0}
ExpandsItem (final_item x) = Unit {0}

abbrev pub ExpandsLine : Line Place → Type 0
ExpandsLine blank_line = Unit {0}
ExpandsLine (comment_line c) = Unit {0}
ExpandsLine (error_line n p) = Unit {0}
ExpandsLine (item_line k p c) = ExpandsItem k

-- ---- signs are no writes and no directions
sign_write : (t : Token) (n : ℕ) → 3 < n → n < 10 → eqb t.kind n ≡ true → is_write t ≡ false
unfolding is_write
sign_write t n h g e = let k : t.kind ≡ n = eqb-true t.kind n e in rw (ne_eqb t.kind 10 (omega arith)) (other-symbol t n (omega arith) (λ q. omega arith) e)

sign_direction : (t : Token) (n : ℕ) → 3 < n → n < 10 → eqb t.kind n ≡ true → is_direction t ≡ false
unfolding is_direction
sign_direction t n h g e = let k : t.kind ≡ n = eqb-true t.kind n e in rw (ne_eqb t.kind 0 (omega arith), ne_eqb t.kind 2 (omega arith))

unseen : (t : Lexed Place) (m : Tokens) → Sound t → is_symbol (token_of t) ≡ false → seen symbol_in (t ∷ m) ≡ seen symbol_in m
unseen t m s e = seen_none symbol_in t m (go (symbol_in t.kind) (sym (sees_symbol t.kind t.place t.inner s) ∙ e))
  where
    go : (o : Option RawSymbol) → is_some o ≡ false → o ≡ None
    go None e = refl
    go (Some a) e = false_true (sym e)

-- ---- one line: that of the tokens t ∷ l' at the index i of the row E
module _ (text : List ℕ) (E : List Token) (i : ℕ) (t : Lexed Place) (l' : Tokens) (lexed : AllLexed (t ∷ l')) (placed : All (Placed text) (t ∷ l'))
    (row : drop i E ≡ entered_from [] i (map token_of (t ∷ l'))) where
  abbrev l : Tokens
  l = t ∷ l'

  abbrev W : List Token
  W = map token_of (t ∷ l')

  abbrev b : ℕ
  b = M.b text E i t l' lexed placed row

  in_line : suc b ≤ length l
  in_line = M.short text E i t l' lexed placed row

  fits : i + suc b ≤ length E
  fits = M.fits text E i t l' lexed placed row

  sound_at : (r : ℕ) → r ≤ b → Sound (at l r)
  sound_at r h = T.sound_at text E i t l' lexed placed row r h

  placed_at : (r : ℕ) → r ≤ b → Placed text (at l r)
  placed_at r h = T.placed_at text E i t l' lexed placed row r h

  some_sound : (a c : ℕ) → AllSound (between l a c)
  some_sound a c = all_sound (between l a c) (all_take Sound (c - a) (drop a l) (all_drop Sound a l (sound_all l (M.sound text E i t l' lexed placed row))))

  some_placed : (a c : ℕ) → All (Placed text) (between l a c)
  some_placed a c = all_take (Placed text) (c - a) (drop a l) (all_drop (Placed text) a l placed)

  abbrev text_at : ℕ → Text Place
  text_at v = text_of (at l v)

  -- a stretch of the row that is the text's
  range_is : (a c : ℕ) → a ≤ c → c ≤ suc b → ((r : ℕ) → a ≤ r → r < c → peek E (i + r) ≡ token_of (at l r)) → range E (i + a) (i + c) ≡ map token_of (between l a c)
  range_is a c h g f =
      let z : i + c - (i + a) ≡ c - a = omega arith in
      ap (λ (n : ℕ). take n (drop (i + a) E)) z ∙ stretch E l i (c - a) a (λ r p q. f r p (omega arith)) (omega (arith, fits)) (omega (arith, in_line))

  -- ---- an item
  module _ (x : Found) (read : line W 0 ≡ Read x) where
    abbrev meant_as : ItemKind → Item Place
    meant_as k = item_means l k x.value x.end x.parts

    end_low : x.end ≤ b
    end_low = omega (arith, M.b_is text E i t l' lexed placed row x read, (M.inside text E i t l' lexed placed row x read).behind)

    value_is : (peek E i).value ≡ i + b
    value_is = T.value_is text E i t l' lexed placed row x read

    -- ---- declarations
    module _ (plain : item_number x.kind ≡ 11 → ⊥) where
      plain_at : (r : ℕ) → 0 < r → r ≤ b → peek E (i + r) ≡ token_of (at l r)
      plain_at r h g = T.plain_at text E i t l' lexed placed row x read plain r h g

      -- behind the item nothing, or its comment, before the line feed
      rest : (e : ℕ) → e ≡ x.end → seen symbol_in (between l e b) ≡ []
      unfolding seen newline_at
      rest e q =
          let ends : b ≡ newline_at W e = M.b_is text E i t l' lexed placed row x read ∙ (M.inside text E i t l' lexed placed row x read).ends ∙ ap (newline_at W) (sym q) in
          by_test_lem (eqb (peek W e).kind 12)
          (λ y.
          let z : b ≡ e + 1 = ends ∙ rw (newline_at, y) in
          let no : is_symbol (token_of (at l e)) ≡ false = other-symbol (token_of (at l e)) 12 (omega arith) (λ q. omega arith) (ap (λ (w : Token). eqb w.kind 12) (sym (peek-map l e)) ∙ y) in
          ap (λ (m : ℕ). seen symbol_in (between l e m)) z ∙ ap (seen symbol_in) (between-one l e (omega (arith, in_line))) ∙ unseen (at l e) [] (sound_at e (omega arith)) no)
          (λ n. let z : b ≡ e = ends ∙ rw (newline_at, n) in ap (λ (m : ℕ). seen symbol_in (between l e m)) z ∙ ap (seen symbol_in) (between_none l e))

      -- the symbols of a set
      set-seen : lead_of x.kind ≡ Equals → seen symbol_in (between l 1 b) ≡ seen symbol_in (between l x.value x.end)
      set-seen lead =
          let a = (M.inside text E i t l' lexed placed row x read).assigned lead in
          let e : ℕ = x.end in
          let nine : is_symbol (token_of (at l 1)) ≡ false = other-symbol (token_of (at l 1)) 9 (omega arith) (λ q. omega arith) (ap (λ (w : Token). eqb w.kind 9) (sym (peek-map l 1)) ∙ a.1) in
          ap (seen symbol_in) (between_split l 1 2 b (omega arith) (omega (arith, a.2, end_low)) ∙ ap (λ (m : Tokens). m ++ between l 2 b) (between-one l 1 (omega (arith, in_line, a.2, end_low))))
          ∙ unseen (at l 1) (between l 2 b) (sound_at 1 (omega (arith, a.2, end_low))) nine
          ∙ ap (seen symbol_in) (between_split l 2 e b (omega (arith, a.2)) end_low) ∙ seen-append symbol_in (between l 2 e) (between l e b)
          ∙ ap (λ (m : List (Located Place RawSymbol)). seen symbol_in (between l 2 e) ++ m) (rest e refl) ∙ append-nil (seen symbol_in (between l 2 e))
          ∙ ap (λ (v : ℕ). seen symbol_in (between l v e)) (sym a.0)

      set_shows : lead_of x.kind ≡ Equals → SymbolsShow (range E (i + 1) (peek E i).value) (seen symbol_in (between l x.value x.end))
      set_shows lead =
          let words : range E (i + 1) (peek E i).value ≡ map token_of (between l 1 b) =
          ap (range E (i + 1)) value_is ∙ range_is 1 b (T.b_low text E i t l' lexed placed row x read) (omega arith) (λ r h g. plain_at r h (omega arith)) in
          subst (SymbolsShow (range E (i + 1) (peek E i).value)) (set-seen lead)
          (subst (λ (m : List Token). SymbolsShow m (seen symbol_in (between l 1 b))) (sym words) (symbols-show text (between l 1 b) (some_sound 1 b) (some_placed 1 b)))

      -- a value of one token
      one_at : (f : Token → Bool) (v : ℕ) → Taken (one f) W v x → (f (token_of (at l v)) ≡ true) × (v ≤ b)
      one_at f v k = let o = one_done f W v x.end k.count k.read in (ap f (sym (peek-map l v)) ∙ o.1, omega (arith, o.0, end_low))

      start_shows : Taken (one is_state) W 2 x → StateShows text (peek E (i + 2)) (located state_in [] (at l x.value))
      start_shows k =
          let o = one_at is_state 2 k in
          subst (λ (v : ℕ). StateShows text (peek E (i + 2)) (located state_in [] (at l v))) (sym k.value)
          (subst (λ (w : Token). StateShows text w (located state_in [] (at l 2))) (sym (plain_at 2 (omega arith) o.1)) (state_shows text (at l 2) (sound_at 2 o.1) (placed_at 2 o.1) o.0))

      input_shows : Taken (one (is_kind 3)) W 1 x → TextShows text (peek E (i + 1)) (text_at x.value)
      input_shows k =
          let o = one_at (is_kind 3) 1 k in
          subst (λ (v : ℕ). TextShows text (peek E (i + 1)) (text_at v)) (sym k.value)
          (subst (λ (w : Token). TextShows text w (text_at 1)) (sym (plain_at 1 (omega arith) o.1)) (text_shows text (at l 1) (sound_at 1 o.1) (placed_at 1 o.1) o.0))

      blank_shows : Taken (one is_symbol) W 2 x → (c : ℕ) → resolve c (peek E (i + 2)) ≡ A.resolve c (located symbol_in raw_blank (at l x.value)).value
      blank_shows k c =
          let o = one_at is_symbol 2 k in
          let u : Lexed Place = at l 2 in
          ap (resolve c) (plain_at 2 (omega arith) o.1)
          ∙ go u (symbol_in u.kind) refl (sym (sees_symbol u.kind u.place u.inner (sound_at 2 o.1)) ∙ o.0) (placed_at 2 o.1).good
          ∙ ap (λ (v : ℕ). A.resolve c (or_else raw_blank (symbol_in (at l v).kind))) (sym k.value)
        where
          go : (u : Lexed Place) (s : Option RawSymbol) → symbol_in u.kind ≡ s → is_some s ≡ true → Good u.kind → resolve c (token_of u) ≡ A.resolve c (or_else raw_blank (symbol_in u.kind))
          go u None q h g = false_true h
          go u (Some s) q h g = (symbol_shown u s g q).code c ∙ ap (λ (o : Option RawSymbol). A.resolve c (or_else raw_blank o)) (sym q)

    -- ---- a rule
    module _ (rule : x.kind ≡ Transition) where
      abbrev q : Parts
      q = x.parts

      abbrev raw : RawTransition Place
      raw = rule_of l x.parts x.end

      parts : PartsIn W x.end x.parts
      parts = M.parts_in text E i t l' lexed placed row x read rule

      rule_at_lem : (r : ℕ) → 4 ≤ r → r ≤ b → peek E (i + r) ≡ token_of (at l r)
      rule_at_lem r h g = T.rule_at_lem text E i t l' lexed placed row x read rule r h g

      rule_row_lem : RowOf E i b l
      rule_row_lem = record { same = rule_at_lem; fits = fits; short = in_line; sound = sound_at; good = λ r h. (placed_at r h).good }

      counts : peek E (i + 1) ≡ counts_of q
      counts = T.rule-counts text E i t l' lexed placed row x read rule

      commas : peek E (i + 3) ≡ parts_of i q
      commas = T.rule-parts text E i t l' lexed placed row x read rule

      -- the bounds of its parts
      moves : (q.dir < parts.lists.dir_stop) × (parts.lists.dir_stop ≤ length W)
      moves = done_within _ W q.dir parts.lists.dir_stop q.dirs dirs_steps parts.lists.moving

      written : (q.write < parts.lists.write_stop) × (parts.lists.write_stop ≤ length W)
      written = done_within _ W q.write parts.lists.write_stop q.writes writes_steps parts.lists.writing

      stop_low : parts.lists.dir_stop < b
      stop_low = omega (arith, parts.lists.end, end_low)

      to_low : (4 < q.to) × (q.to + 2 ≡ q.write) × (q.write < q.dir) × (q.dir < b)
      to_low = (parts.next.0, omega (arith, parts.lists.to, parts.lists.write), omega (arith, written, parts.lists.dir), omega (arith, moves, stop_low))

      -- what is read
      read_shown : Both (Both SymbolShows) (sets_of E i) raw.read
      unfolding sets_of rule_of read_sets
      read_shown =
          let g = parts.lists.reading in
          let s : ℕ = g.stop in
          let side : parts.lists.side ≡ s + 1 + 1 = g.end ∙ omega arith in
          let to : q.to ≡ s + 1 + 1 + 1 = omega (arith, parts.lists.to, side) in
          let opened : eqb (peek W (s + 1 + 1)).kind 4 ≡ true = ap (λ (k : ℕ). eqb (peek W k).kind 4) (sym side) ∙ parts.lists.opens in
          let low = to_low in
          let passes : read_sets false (between l s q.to) ≡ [] =
          passed E i b l rule_row_lem s 5 q.to (omega arith) (omega arith) (omega arith) (omega arith) (λ z. omega arith) (λ z. omega arith) g.closes
          ∙ passed E i b l rule_row_lem (s + 1) 9 q.to (omega arith) (omega arith) (omega arith) (omega arith) (λ z. omega arith) (λ z. omega arith) g.equal
          ∙ passed E i b l rule_row_lem (s + 1 + 1) 4 q.to (omega arith) (omega arith) (omega arith) (omega arith) (λ z. omega arith) (λ z. omega arith) opened
          ∙ ap (λ (k : ℕ). read_sets false (between l k q.to)) (sym to) ∙ ap (read_sets false) (between_none l q.to) in
          let all = reads_shown E i b l rule_row_lem 4 s q.reads q.to (omega arith) g.list (omega arith) (omega arith) low.0 passes in
          subst (λ (n : ℕ). Both (Both SymbolShows) (S.read_sets n (drop (first_entry E (i + 4)) E)) raw.read) (sym (ap (λ (w : Token). w.start) counts))
          (subst (λ (k : ℕ). Both (Both SymbolShows) (S.read_sets q.reads (drop (first_entry E (i + 4)) E)) (read_sets false (between l k q.to))) (sym parts.read) all)

      -- what is written, and the moves
      write_shown_all : Both WriteShows (every_second E (first_entry E (peek E (i + 3)).end) raw.write) raw.write
      unfolding rule_of
      write_shown_all =
          let low = to_low in
          let all =
          tuple_shown E i b l rule_row_lem write_in is_write WriteShows (λ t s. sees_write t.kind t.place t.inner s) (λ t a s g e. write_shown t a s g e) sign_write
          (one is_write) (one_done is_write) q.write parts.lists.write_stop q.writes 8 (omega arith) parts.lists.writing (omega arith) (omega arith) parts.lists.comma
          (omega (arith, parts.lists.dir)) in
          subst (λ (k : ℕ). Both WriteShows (every_second E (first_entry E k) raw.write) raw.write) (sym (ap (λ (w : Token). w.end) commas))
          (subst (λ (k : ℕ). Both WriteShows (every_second E (first_entry E (i + q.write)) (seen write_in (between l q.write k))) (seen write_in (between l q.write k))) (sym parts.lists.dir) all)

      move_shown_all : Both MoveShows (every_second E (first_entry E (peek E (i + 3)).value) raw.dir) raw.dir
      unfolding rule_of
      move_shown_all =
          let low = to_low in
          let all =
          tuple_shown E i b l rule_row_lem direction_in is_direction MoveShows (λ t s. sees_direction t.kind t.place t.inner s) (λ t a s g e. move_shown t a e) sign_direction
          direction direction-takes q.dir parts.lists.dir_stop q.dirs 5 (omega arith) parts.lists.moving (omega arith) (omega arith) parts.lists.last (omega (arith, stop_low)) in
          subst (λ (k : ℕ). Both MoveShows (every_second E (first_entry E k) raw.dir) raw.dir) (sym (ap (λ (w : Token). w.value) commas))
          (subst (λ (k : ℕ). Both MoveShows (every_second E (first_entry E (i + q.dir)) (seen direction_in (between l q.dir k))) (seen direction_in (between l q.dir k))) (sym parts.lists.end) all)

      -- its states
      from_is : peek E (i + 2) ≡ token_of (at l q.from)
      from_is = T.rule-state text E i t l' lexed placed row x read rule ∙ ap (λ (r : ℕ). token_of (at l r)) (sym parts.lists.from)

      to_is : peek E (peek E (i + 3)).start ≡ token_of (at l q.to)
      to_is = ap (λ (w : Token). peek E w.start) commas ∙ rule_at_lem q.to (omega (arith, to_low.0)) (omega (arith, to_low))

      state-at : (r : ℕ) → r ≤ b → is_state (peek W r) ≡ true → StateShows text (token_of (at l r)) (located state_in [] (at l r))
      state-at r h e = state_shows text (at l r) (sound_at r h) (placed_at r h) (ap is_state (sym (peek-map l r)) ∙ e)

      -- the tokens that it reads, as the assembler has them
      same_part : read_tokens E i ≡ read_part (entry_at E i)
      unfolding read_tokens read_part
      same_part =
          let z : suc i + 3 ≡ i + 4 = omega arith in
          let y : suc i + 2 ≡ i + 3 = omega arith in
          sym (ap (λ (w : Token). take (w.start - (i + 4)) (drop 3 (drop (suc i) E))) (get_or-drop (suc i) E 2 ended ∙ ap (peek E) y)
          ∙ ap (take ((peek E (i + 3)).start - (i + 4))) (drop-drop 3 (suc i) E ∙ ap (λ (n : ℕ). drop n E) z))

      rule_shows : Expands raw → RuleShows E i raw
      unfolding rule_of
      rule_shows f =
          let m = M.rule_in_lem text E i t l' lexed placed row x read rule in
          record {
            from = ap (λ (w : Token). place_words (place_of w)) from_is ∙ place_shown (at l q.from);
            to = ap (λ (w : Token). place_words (place_of w)) to_is ∙ place_shown (at l q.to);
            read = read_shown;
            write = write_shown_all;
            dir = move_shown_all;
            reads = ap (λ (w : Token). w.start) counts ∙ (M.rule-counted text E i t l' lexed placed row x read rule).reads;
            writes = f.writes;
            dirs = f.dirs;
            product = ap combinations same_part ∙ m.product ∙ min-eq_left {n = A.combinations raw.read} {m = 262145} (omega (arith, f.few));
          }

      mentions_shown : MentionsShow text E i raw
      unfolding rule_of
      mentions_shown = record {
        from =
            subst (λ (w : Token). StateShows text w (located state_in [] (at l q.from))) (sym from_is)
            (state-at q.from (omega (arith, parts.lists.from, to_low)) (ap (λ (r : ℕ). is_state (peek W r)) parts.lists.from ∙ parts.lists.state));
        to = subst (λ (w : Token). StateShows text w (located state_in [] (at l q.to))) (sym to_is) (state-at q.to (omega (arith, to_low)) parts.lists.next);
        reads = subst (λ (w : List Token). ReadsShow false w raw.read) (sym reads_are)
            (subst (λ (k : ℕ). ReadsShow false (map token_of (between l 4 q.to)) (read_sets false (between l k q.to))) (sym parts.read)
            (reads-show text false (between l 4 q.to) (some_sound 4 q.to) (some_placed 4 q.to) even));
        writes = subst (λ (w : List Token). WritesShow w raw.write) (sym writes_are) (writes-show text (between l q.write q.dir) (some_sound q.write q.dir) (some_placed q.write q.dir));
      }
        where
          reads_are : range E (i + 4) (peek E (i + 3)).start ≡ map token_of (between l 4 q.to)
          reads_are = ap (λ (w : Token). range E (i + 4) w.start) commas
              ∙ range_is 4 q.to (omega (arith, to_low.0)) (omega (arith, to_low)) (λ r h g. rule_at_lem r h (omega (arith, to_low)))

          writes_are : range E (peek E (i + 3)).end (peek E (i + 3)).value ≡ map token_of (between l q.write q.dir)
          writes_are = ap (λ (w : Token). range E w.end w.value) commas
              ∙ range_is q.write q.dir (omega (arith, to_low)) (omega (arith, to_low)) (λ r h g. rule_at_lem r (omega (arith, to_low)) (omega (arith, to_low)))

          even : balanced false (map token_of (between l 4 q.to)) ≡ true
          even = ap (balanced false) (sym (ap (take (q.to - 4)) (drop-map 4 l) ∙ take-map (q.to - 4) (drop 4 l))) ∙ parts.even

    -- ---- by the item's kind
    plain-kind : (k : ItemKind) → x.kind ≡ k → (item_number k ≡ 11 → ⊥) → item_number x.kind ≡ 11 → ⊥
    plain-kind k e h z = h (ap item_number (sym e) ∙ z)

    mentions_of : (k : ItemKind) → x.kind ≡ k → Mentions text E i (meant_as k)
    unfolding item_means item_number lead_of names_of
    mentions_of Machine e = tt
    mentions_of Kind e = tt
    mentions_of Input e = input_shows (plain-kind Input e (λ z. omega arith)) (item-taken W x read Input e)
    mentions_of Output e = tt
    mentions_of Tapes e = tt
    mentions_of States e = M.names_of_lem text E i t l' lexed placed row x read States e
    mentions_of InputAlphabet e = set_shows (plain-kind InputAlphabet e (λ z. omega arith)) (ap lead_of e)
    mentions_of TapeAlphabet e = set_shows (plain-kind TapeAlphabet e (λ z. omega arith)) (ap lead_of e)
    mentions_of Blank e = blank_shows (plain-kind Blank e (λ z. omega arith)) (item-taken W x read Blank e)
    mentions_of Start e = start_shows (plain-kind Start e (λ z. omega arith)) (item-taken W x read Start e)
    mentions_of Final e = M.names_of_lem text E i t l' lexed placed row x read Final e
    mentions_of Transition e = mentions_shown e

    rule_of_lem : (k : ItemKind) → x.kind ≡ k → ExpandsItem (meant_as k) → RuleOf E i (meant_as k)
    unfolding item_means
    rule_of_lem Machine e f = tt
    rule_of_lem Kind e f = tt
    rule_of_lem Input e f = tt
    rule_of_lem Output e f = tt
    rule_of_lem Tapes e f = tt
    rule_of_lem States e f = tt
    rule_of_lem InputAlphabet e f = tt
    rule_of_lem TapeAlphabet e f = tt
    rule_of_lem Blank e f = tt
    rule_of_lem Start e f = tt
    rule_of_lem Final e f = tt
    rule_of_lem Transition e f = rule_shows e f

    pub item-mentions : Mentions text E i (meant_as x.kind)
    item-mentions = mentions_of x.kind refl

    pub item_parsed : ItemParsed text E i (meant_as x.kind)
    item_parsed = record {
      tokens = l;
      found = x;
      read = read;
      means = refl;
      lexed = lexed;
      placed = placed;
      low = omega (arith, end_low, in_line);
      plain = λ no r h. T.plain_at text E i t l' lexed placed row x read (by_rule x.kind (λ e. absurd (no e)) (λ n p. p)) (suc r) (omega arith)
          (omega (arith, M.b_is text E i t l' lexed placed row x read));
    }

    item_shows : length text < 2 ^ 32 → ExpandsItem (meant_as x.kind) → ItemShows text E i (meant_as x.kind) x.span (own_comment l x.end x.newline)
    unfolding item_entry
    item_shows small f =
        let entry = M.entry_is text E i t l' lexed placed row x read in
        let noted = T.noted text E i t l' lexed placed row x read small in
        record {
          kind = ap (λ (w : Token). w.kind) entry ∙ ap (λ (n : ℕ). 16 + n) (sym (M.order_is text E i t l' lexed placed row x read x.kind));
          low = omega (arith, value_is, T.b_low text E i t l' lexed placed row x read);
          free = T.item_free text E i t l' lexed placed row x read;
          feed = T.item_feed text E i t l' lexed placed row x read;
          within = omega (arith, value_is, fits);
          line = ap (λ (w : Token). place_words (place_of w)) entry;
          comment = noted.comment;
          own = noted.place;
          rule = rule_of_lem x.kind refl f;
          mentions = item-mentions;
          parsed = item_parsed;
        }

  -- ---- the line
  comment_zero : (k : ℕ) → line W 0 ≡ Comment k → k ≡ 0
  unfolding line is_comment
  comment_zero k e =
      let h : (eqb (peek W 0).kind 12 ≡ true) × (eqb (peek W 1).kind 13 ≡ true) = subst (LineIn W) e (line_in W) in
      let twelve : (peek W 0).kind ≡ 12 = eqb-true (peek W 0).kind 12 h.0 in
      let is : is_comment W 0 ≡ true = rw (is_comment, h.0) h.1 in
      let z : Comment 0 ≡ Comment k = sym (rw (line, ne_eqb (peek W 0).kind 13 (omega arith), is)) ∙ e in
      let q : 0 ≡ k = cc in
      sym q

  entered_as : (y : Answer) → line W 0 ≡ y → (r : ℕ) → r ≤ b → peek E (i + r) ≡ peek (enter_as y i W) r
  unfolding enter_line
  entered_as y e r h = M.row_at text E i t l' lexed placed row r h ∙ ap (λ (y : Answer). peek (enter_as y i W) r) e

  first_as : (y : Answer) → line W 0 ≡ y → peek E i ≡ peek (enter_as y i W) 0
  first_as y e = let z : i + 0 ≡ i = omega arith in ap (peek E) (sym z) ∙ entered_as y e 0 (omega arith)

  comment_line_lem : length text < 2 ^ 32 → line W 0 ≡ Comment 0 → CommentShows E i (comment_of t)
  unfolding enter_as
  comment_line_lem small e =
      let h : (eqb (peek W 0).kind 12 ≡ true) × (eqb (peek W 1).kind 13 ≡ true) = subst (LineIn W) e (line_in W) in
      let here : peek E i ≡ token_of t = first_as (Comment 0) e in
      let kind : (peek E i).kind ≡ 12 = ap (λ (w : Token). w.kind) here ∙ eqb-true (token_of t).kind 12 h.0 in
      let low : 1 ≤ b =
      by_test_lem (eqb b 0)
      (λ y.
      let z : eqb (token_of (at l 0)).kind 13 ≡ true = ap (λ (r : ℕ). eqb (token_of (at l r)).kind 13) (sym (eqb-true b 0 y)) ∙ T.feed_at text E i t l' lexed placed row in
      let w : (token_of t).kind ≡ 13 = eqb-true (token_of t).kind 13 z in
      let v : (token_of t).kind ≡ 12 = eqb-true (token_of t).kind 12 h.0 in
      absurd (omega arith))
      (λ n. let z = eqb-false b 0 n in omega arith) in
      record {
        kind = kind;
        text = ap text_words here ∙ comment_shown text small t placed.0 h.0;
        feed = ap (λ (w : Token). w.kind) (entered_as (Comment 0) e 1 low) ∙ eqb-true (peek W 1).kind 13 h.1;
      }

  line_as : length text < 2 ^ 32 → (y : Answer) → line W 0 ≡ y → ExpandsLine (line_means l y) → Shows text E i (line_means l y)
  unfolding line_means enter_as failed_entry
  line_as small Empty e f =
      let h : eqb (peek W 0).kind 13 ≡ true = subst (LineIn W) e (line_in W) in
      ap (λ (w : Token). w.kind) (first_as Empty e) ∙ eqb-true (token_of t).kind 13 h
  line_as small (Comment k) e f =
      let z = comment_zero k e in
      subst (λ (k : ℕ). CommentShows E i (comment_of (at l k))) (sym z) (comment_line_lem small (e ∙ ap Comment z))
  line_as small (Read x) e f = item_shows x e small f
  line_as small (Err bad) e f = omega (arith, ap (λ (w : Token). w.kind) (first_as (Err bad) e))

  pub line_shows : length text < 2 ^ 32 → ExpandsLine (line_means l (line W 0)) → Shows text E i (line_means l (line W 0))
  line_shows small f = line_as small (line W 0) refl f
