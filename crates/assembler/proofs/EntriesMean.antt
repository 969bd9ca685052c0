-- The entries of a row, once the lines of a text are entered in it, mean the language's lines.
use Rattle.std.specs.Prelude.{Err, None}
use mathlib.Core.Path.{◌≡◌, refl, sym, ap, subst, ◌∙◌}
use mathlib.Core.Bool.{Bool, true, false, cond}
use mathlib.Core.List.{List, [], ◌∷◌, ◌++◌, map, append-nil, append_assoc}
use Prim.Native.Nat.{ℕ, zero, suc, ◌+◌, ◌-◌, ◌≤◌, ◌<◌, min}
use native.Mathlib.Omega.{arith}
use native.Mathlib.Nat.{le_of_suc-le-suc, min-eq_left}
use borrow.Author.Tests.{lt-ltb, le-ltb, le-leb, lt-leb, ne_eqb, eqb-true, leb-true, leb-false}
use lib.Dec.{eqb, leb, ltb}
use lib.ListN.{length, get_or, take, drop, set, length-append, length-take, length-drop, length-map, length-set, get_or-append, get_or-map}
use lib.Seq.{drop-drop, get_or-drop, get_or-take, take-add, take-suc, drop_at, length-take-le, drop-cons, get_or-set_same, get_or-set_other, ext_get_or}
use Rattle.diag.proofs.Cases.{by_test_lem}
use Rattle.diag.specs.declared.Span.{Span as Place}
use Rattle.lexer.specs.Tokens.{TokenKind, word, number, quoted, str, sign, comment, newline, unterminated_string, unterminated_quote, Token as Lexed}
use Rattle.lexer.specs.Words.{kind_number, token_value, value}
use Rattle.lexer.proofs.Placed.{Placed, All, all-at}
use Rattle.tokens.specs.declared.Token.{Token}
use Rattle.parser.specs.declared.Parts.{Parts}
use Rattle.parser.specs.declared.ItemKind.{ItemKind}
use Rattle.parser.specs.declared.ItemKind.TheVariants.{Machine, Kind, Input, Output, Tapes, States, InputAlphabet, TapeAlphabet, Blank, Start, Final, Transition}
use Rattle.parser.specs.declared.Lead.TheVariants.{Equals}
use Rattle.parser.specs.declared.Item.{Item as Found}
use Rattle.parser.specs.Row.{peek, ended}
use Rattle.parser.specs.Views.{is_kind, lead_of}
use Rattle.parser.specs.Lines.{Answer, Empty, Comment, Read, line, line_end, line_length, newline_at, code_number}
use Rattle.parser.specs.Meaning.{token_of, nothing, at, between, located, or_else, Sound, seen, read_sets, rule_of, item_means, line_means, Counted, CountedAs, LineCounted, AllLexed, LineAt}
use Rattle.parser.proofs.Lines.{line_at}
use Rattle.parser.proofs.Views.{is_some, tok, sees_number}
use Rattle.language.specs.Machine.{Located}
use Rattle.language.specs.Assembly as A
use Rattle.language.specs.Lines.{Item, Line, state_in, number_in, rows, lines, covering}
use Rattle.assembler.specs.Rows.{place_of}
use Rattle.assembler.specs.Entries.{Entry, entry_at, behind, entries}
use Rattle.assembler.specs.Entered.{item_number, item_entry, failed_entry, counts_of, parts_of, with_parts, enter_as, enter_line, entered_from, entered}
use Rattle.assembler.specs.Rules.{combinations, read_part}
use Rattle.assembler.specs.Finals.{names_from}
use Rattle.assembler.proofs.Rows.{entries_at, entries-step, entries-end}
use Rattle.assembler.proofs.LineLaws.{parts-other}
use Rattle.assembler.proofs.EnteredLaws.{enter-length, parts_first, entry_behind, enter-drop, entered-one}
use Rattle.assembler.proofs.Braces.{balanced}
use Rattle.assembler.proofs.Inside.{PartsIn, ItemIn, LineIn, line_in}
use Rattle.assembler.proofs.Means.{number as item_order, TapesMean, TapesOf, ItemMeans, Means, AllMean, no_lines, one_line}
use Rattle.assembler.proofs.RulesMean.{RuleMeans, RulesOf}
use Rattle.assembler.proofs.FinalsMean.{AllNames, NamesIn}
use Rattle.assembler.proofs.SetsMean.{AllSound, sets_mean}
use Rattle.assembler.proofs.NamesMean.{seen-append, seen_none, no_state, AllFree, walk_mean}

-- ---- parts of lists of tokens
abbrev pub Tokens : Type 0
Tokens = List (Lexed Place)

pub all_take : (P : Lexed Place → Type 0) (n : ℕ) (l : Tokens) → All P l → All P (take n l)
all_take P zero l a = tt
all_take P (suc n) [] a = tt
all_take P (suc n) (t ∷ l) a = (a.0, all_take P n l a.1)

pub all_drop : (P : Lexed Place → Type 0) (n : ℕ) (l : Tokens) → All P l → All P (drop n l)
all_drop P zero l a = a
all_drop P (suc n) [] a = tt
all_drop P (suc n) (t ∷ l) a = all_drop P n l a.1

pub sound_all : (l : Tokens) → AllSound l → All Sound l
sound_all [] a = tt
sound_all (t ∷ l) a = (a.0, sound_all l a.1)

pub all_sound : (l : Tokens) → All Sound l → AllSound l
all_sound [] a = tt
all_sound (t ∷ l) a = (a.0, all_sound l a.1)

pub lexed_sound : (l : Tokens) → AllLexed l → AllSound l
lexed_sound [] a = tt
lexed_sound (t ∷ l) a = (a.0.sound, lexed_sound l a.1)

pub lexed_drop : (n : ℕ) (l : Tokens) → AllLexed l → AllLexed (drop n l)
lexed_drop zero l a = a
lexed_drop (suc n) [] a = tt
lexed_drop (suc n) (t ∷ l) a = lexed_drop n l a.1

pub take-map : (n : ℕ) (l : Tokens) → take n (map token_of l) ≡ map token_of (take n l)
take-map zero l = refl
take-map (suc n) [] = refl
take-map (suc n) (t ∷ l) = ap (λ (r : List Token). token_of t ∷ r) (take-map n l)

pub drop-map : (n : ℕ) (l : Tokens) → drop n (map token_of l) ≡ map token_of (drop n l)
drop-map zero l = refl
drop-map (suc n) [] = refl
drop-map (suc n) (t ∷ l) = drop-map n l

map-append : (a b : Tokens) → map token_of (a ++ b) ≡ map token_of a ++ map token_of b
map-append [] b = refl
map-append (t ∷ a) b = ap (λ (r : List Token). token_of t ∷ r) (map-append a b)

-- the row's token at an index is the text's
pub peek-map : (l : Tokens) (i : ℕ) → peek (map token_of l) i ≡ token_of (at l i)
unfolding token_of kind_number token_value
peek-map l i = get_or-map token_of l i nothing

pub between_split : (l : Tokens) (a b c : ℕ) → a ≤ b → b ≤ c → between l a c ≡ between l a b ++ between l b c
between_split l a b c h g =
    let x : c - a ≡ (b - a) + (c - b) = omega arith in
    let y : a + (b - a) ≡ b = omega arith in
    ap (λ (n : ℕ). take n (drop a l)) x ∙ take-add (b - a) (c - b) (drop a l)
    ∙ ap (λ (r : Tokens). take (b - a) (drop a l) ++ take (c - b) r) (drop-drop (b - a) a l ∙ ap (λ (n : ℕ). drop n l) y)

pub between-one : (l : Tokens) (a : ℕ) → a < length l → between l a (a + 1) ≡ at l a ∷ []
between-one l a h =
    let x : a + 1 - a ≡ 1 = omega arith in
    ap (λ (n : ℕ). take n (drop a l)) x ∙ ap (take 1) (drop-cons l a nothing h)

pub between_none : (l : Tokens) (a : ℕ) → between l a a ≡ []
between_none l a = let x : a - a ≡ 0 = omega arith in ap (λ (n : ℕ). take n (drop a l)) x

-- ---- the first line feed
pub free_before : (l : Tokens) → AllFree (take (line_length (map token_of l)) l)
unfolding line_length
free_before [] = tt
free_before (t ∷ l) = go (eqb (token_of t).kind 13) refl (free_before l)
  where
    go : (b : Bool) → eqb (token_of t).kind 13 ≡ b → AllFree (take (line_length (map token_of l)) l) → AllFree (take (elim b [ true ↦ 0 | false ↦ suc (line_length (map token_of l)) ]) (t ∷ l))
    go true e r = tt
    go false e r = (e, r)

pub feed_there : (ws : List Token) → line_length ws < length ws → eqb (peek ws (line_length ws)).kind 13 ≡ true
unfolding line_length
feed_there [] h = absurd (omega arith)
feed_there (w ∷ ws) h = go (eqb w.kind 13) refl h (feed_there ws)
  where
    go : (b : Bool) → eqb w.kind 13 ≡ b → elim b [ true ↦ 0 | false ↦ suc (line_length ws) ] < suc (length ws) → (line_length ws < length ws → eqb (peek ws (line_length ws)).kind 13 ≡ true)
        → eqb (peek (w ∷ ws) (elim b [ true ↦ 0 | false ↦ suc (line_length ws) ])).kind 13 ≡ true
    go true e h r = e
    go false e h r = r (le_of_suc-le-suc h)

pub length_by : (w : Token) (ws : List Token) (b : Bool) → eqb w.kind 13 ≡ b → line_length (w ∷ ws) ≡ elim b [ true ↦ 0 | false ↦ suc (line_length ws) ]
unfolding line_length
length_by w ws b e = ap (λ (b : Bool). elim b [ true ↦ 0 | false ↦ suc (line_length ws) ]) e

-- ---- how far a line goes
behind-kind : (i : ℕ) (w : Token) (n : ℕ) → w.kind ≡ n → n < 16 → behind i w ≡ cond (eqb n 12) 1 0
unfolding behind
behind-kind i w n e h = rw (e, lt-leb 16 n h)

failed-behind : (i c n : ℕ) (s : Place) → behind i (failed_entry i c s n) ≡ n
unfolding behind failed_entry
failed-behind i c n s = rw (le-leb 16 (32 + c) (omega arith)) (omega arith)

pub end_is : (ws : List Token) → line_end ws 0 ≡ line_length ws
unfolding line_end
end_is ws = omega arith

pub line-behind : (i : ℕ) (w : Token) (ws : List Token) (x : Answer) → LineIn (w ∷ ws) x → behind i (peek (enter_as x i (w ∷ ws)) 0) ≡ line_end (w ∷ ws) 0
unfolding enter_as line_length
line-behind i w ws Empty h = behind-kind i w 13 (eqb-true w.kind 13 h) (omega arith) ∙ sym (end_is (w ∷ ws) ∙ length_by w ws true h)
line-behind i w ws (Comment k) h =
    let z : w.kind ≡ 12 = eqb-true w.kind 12 h.0 in
    behind-kind i w 12 z (omega arith) ∙ sym (end_is (w ∷ ws) ∙ length_by w ws false (ne_eqb w.kind 13 (omega arith)) ∙ ap suc (second ws h.1))
  where
    second : (ws : List Token) → eqb (peek (w ∷ ws) 1).kind 13 ≡ true → line_length ws ≡ 0
    second [] e = refl
    second (u ∷ us) e = length_by u us true e
line-behind i w ws (Read x) h = ap (behind i) (parts_first x.kind i x.parts (item_entry i x) ws) ∙ entry_behind i x ∙ sym h.feeds
line-behind i w ws (Err bad) h = failed-behind i (code_number bad.code) (line_end (w ∷ ws) 0) bad.span

tail_of : (n : ℕ) (l r : List Token) → 0 < length l → drop 1 (take (suc n) l ++ r) ≡ take n (drop 1 l) ++ r
tail_of n [] r h = absurd (omega arith)
tail_of n (x ∷ l) r h = refl

-- ---- a number's value, cut off at 256 or at 64 bits
pub token_place : (t : Lexed Place) → place_of (token_of t) ≡ t.place
unfolding token_of
token_place t = refl

number_view : (t : Lexed Place) → eqb (token_of t).kind 1 ≡ true → is_kind 1 (token_of t) ≡ true
unfolding is_kind
number_view t e = e

number-kind : (k : TokenKind) (p q : Place) → is_some (number_in k) ≡ true → ltb 255 (token_of (tok k p q)).value ≡ ltb 255 (or_else 0 (number_in k))
unfolding number_in token_of token_value
number-kind (number w) p q e =
    by_test_lem (leb (value w) 255)
    (λ y.
    let h : value w ≤ 255 = leb-true (value w) 255 y in
    le-ltb 255 (min (value w) 256) (omega arith) ∙ sym (le-ltb 255 (min (value w) 18446744073709551615) (omega arith)))
    (λ n.
    let h : 255 < value w = leb-false (value w) 255 n in
    lt-ltb 255 (min (value w) 256) (omega arith) ∙ sym (lt-ltb 255 (min (value w) 18446744073709551615) (omega arith)))
number-kind (word w) p q e = absurd (let z : ◌≡◌ {A = ℕ} 0 1 = cc in omega arith)
number-kind (quoted c) p q e = absurd (let z : ◌≡◌ {A = ℕ} 0 1 = cc in omega arith)
number-kind (str w) p q e = absurd (let z : ◌≡◌ {A = ℕ} 0 1 = cc in omega arith)
number-kind (sign c) p q e = absurd (let z : ◌≡◌ {A = ℕ} 0 1 = cc in omega arith)
number-kind (comment w) p q e = absurd (let z : ◌≡◌ {A = ℕ} 0 1 = cc in omega arith)
number-kind newline p q e = absurd (let z : ◌≡◌ {A = ℕ} 0 1 = cc in omega arith)
number-kind unterminated_string p q e = absurd (let z : ◌≡◌ {A = ℕ} 0 1 = cc in omega arith)
number-kind unterminated_quote p q e = absurd (let z : ◌≡◌ {A = ℕ} 0 1 = cc in omega arith)

number_large : (t : Lexed Place) → Sound t → eqb (token_of t).kind 1 ≡ true → ltb 255 (token_of t).value ≡ ltb 255 (or_else 0 (number_in t.kind))
number_large t s e = number-kind t.kind t.place t.inner (sym (sees_number t.kind t.place t.inner s) ∙ number_view t e)

-- ---- one line: that of the tokens t ∷ l' at the index i of the row E
module _ (text : List ℕ) (E : List Token) (i : ℕ) (t : Lexed Place) (l' : Tokens) (lexed : AllLexed (t ∷ l')) (placed : All (Placed text) (t ∷ l'))
    (row : drop i E ≡ entered_from [] i (map token_of (t ∷ l'))) where
  abbrev pub l : Tokens
  l = t ∷ l'

  abbrev pub W : List Token
  W = map token_of (t ∷ l')

  abbrev pub L : List Token
  L = enter_line i (map token_of (t ∷ l'))

  abbrev pub b : ℕ
  b = behind i (peek L 0)

  abbrev pub R : List Token
  R = entered_from [] (i + suc b) (drop (suc b) L)

  pub parsed : LineAt l W 0
  parsed = subst (λ (ws : List Token). LineAt l ws 0) (append-nil W) (line_at l [] 0 lexed (omega arith))

  pub ends : b ≡ line_end W 0
  unfolding enter_line
  ends = line-behind i (token_of t) (map token_of l') (line W 0) (line_in W)

  pub short : suc b ≤ length l
  short = omega (arith, ends, parsed.within)

  pub size__l : length L ≡ length l
  size__l = enter-length i W ∙ length-map l token_of

  pub split : drop i E ≡ take (suc b) L ++ R
  split = row ∙ entered-one i (token_of t) (map token_of l')

  pub size-line : length (take (suc b) L) ≡ suc b
  size-line = length-take-le (suc b) L (omega (arith, short, size__l))

  pub fits : i + suc b ≤ length E
  fits = omega (arith, length-drop i E, ap length split, length-append (take (suc b) L) R, size-line)

  pub below : i < length E
  below = omega (arith, fits)

  pub row_at : (r : ℕ) → r ≤ b → peek E (i + r) ≡ peek L r
  row_at r h =
      sym (get_or-drop i E r ended) ∙ ap (λ (x : List Token). get_or x r ended) split ∙ get_or-append (take (suc b) L) R ended r (omega (arith, size-line)) ∙ get_or-take (suc b) L r ended (omega arith)

  pub first_is : peek E i ≡ peek L 0
  first_is = let z : i + 0 ≡ i = omega arith in ap (peek E) (sym z) ∙ row_at 0 (omega arith)

  pub rest_is : drop (suc i) E ≡ take b (drop 1 L) ++ R
  rest_is =
      let z : i + 1 ≡ suc i = omega arith in
      ap (λ (k : ℕ). drop k E) (sym z) ∙ sym (drop-drop 1 i E) ∙ ap (drop 1) split ∙ tail_of b L R (omega (arith, size__l))

  pub rest_at : (r : ℕ) → suc r ≤ b → peek (drop (suc i) E) r ≡ peek L (suc r)
  rest_at r h = let z : suc i + r ≡ i + suc r = omega arith in get_or-drop (suc i) E r ended ∙ ap (peek E) z ∙ row_at (suc r) h

  -- the next line
  pub next_row : drop (i + suc b) E ≡ entered_from [] (i + suc b) (map token_of (drop (suc b) l))
  next_row =
      let z : 1 + b ≡ suc b = omega arith in
      let same : drop (suc b) L ≡ map token_of (drop (suc b) l) =
      ap (λ (n : ℕ). drop n L) (sym z) ∙ sym (drop-drop b 1 L) ∙ enter-drop i (token_of t) (map token_of l') ∙ drop-map b l' in
      sym (drop-drop (suc b) i E) ∙ ap (drop (suc b)) split ∙ drop_at (take (suc b) L) R (suc b) size-line ∙ ap (entered_from [] (i + suc b)) same

  pub next-at : i + 1 + behind i (peek E i) ≡ i + suc b
  next-at = ap (λ (w : Token). i + 1 + behind i w) first_is ∙ omega arith

  pub next-lines : lines covering l ≡ line_means l (line W 0) ∷ lines covering (drop (suc b) l)
  next-lines =
      let z : line_end W 0 + 1 ≡ suc b = omega (arith, ends) in
      parsed.means ∙ ap (λ (n : ℕ). line_means l (line W 0) ∷ lines covering (drop n l)) z

  pub sound : AllSound l
  sound = lexed_sound l lexed

  abbrev pub entry : Entry
  entry = entry_at E i

  -- ---- an item
  module _ (x : Found) (read : line W 0 ≡ Read x) where
    pub inside : ItemIn W x
    inside = subst (LineIn W) read (line_in W)

    pub counted : CountedAs l x.kind x
    counted = subst (LineCounted l) read parsed.counted

    pub L-is : L ≡ with_parts x.kind i x.parts (item_entry i x ∷ map token_of l')
    unfolding enter_line enter_as
    L-is = ap (λ (y : Answer). enter_as y i W) read

    pub b_is : b ≡ x.newline
    b_is = ends ∙ inside.feeds

    pub entry_is : peek E i ≡ item_entry i x
    entry_is = first_is ∙ ap (λ (y : List Token). peek y 0) L-is ∙ parts_first x.kind i x.parts (item_entry i x) (map token_of l')

    -- entering a declaration changes only its first token
    module _ (plain : item_number x.kind ≡ 11 → ⊥) where
      pub plain-L : L ≡ item_entry i x ∷ map token_of l'
      plain-L = L-is ∙ parts-other x.kind i x.parts (item_entry i x ∷ map token_of l') plain

      pub plain_at : (r : ℕ) → suc r ≤ b → peek (drop (suc i) E) r ≡ token_of (at l (suc r))
      plain_at r h = rest_at r h ∙ ap (λ (y : List Token). peek y (suc r)) plain-L ∙ peek-map l' r

      -- the tokens behind the entry, up to the line feed at b
      module _ (n : ℕ) (more : b ≡ suc n) where
        abbrev pub body : Tokens
        body = take n l'

        pub plain-rest : drop (suc i) E ≡ map token_of body ++ (token_of (at l b) ∷ R)
        plain-rest =
            let k : n < length l' = omega (arith, short, more) in
            rest_is ∙ ap (λ (y : List Token). take b (drop 1 y) ++ R) plain-L ∙ ap (λ (m : ℕ). take m (map token_of l') ++ R) more ∙ ap (λ (y : List Token). y ++ R) (take-map (suc n) l')
            ∙ ap (λ (y : Tokens). map token_of y ++ R) (take-suc l' n nothing k) ∙ ap (λ (y : List Token). y ++ R) (map-append (take n l') (at l' n ∷ []))
            ∙ append_assoc (map token_of (take n l')) (token_of (at l' n) ∷ []) R ∙ ap (λ (m : ℕ). map token_of (take n l') ++ (token_of (at l m) ∷ R)) (sym more)

        pub body_free : AllFree body
        body_free =
            let z : line_length W ≡ suc n = sym (end_is W) ∙ sym ends ∙ more in
            (subst (λ (m : ℕ). AllFree (take m l)) z (free_before l)).1

        pub feed_kind : eqb (token_of (at l b)).kind 13 ≡ true
        feed_kind =
            let z : line_length W ≡ b = sym (end_is W) ∙ sym ends in
            ap (λ (w : Token). eqb w.kind 13) (sym (peek-map l b)) ∙ ap (λ (m : ℕ). eqb (peek W m).kind 13) (sym z) ∙ feed_there W (omega (arith, short, length-map l token_of))

        pub names-found : AllNames text E (names_from (suc i) (drop (suc i) E)) (seen state_in body)
        names-found =
            walk_mean text E body (suc i) (token_of (at l b)) R body_free (all_sound body (all_take Sound n l' (sound_all l' sound.1))) (all_take (Placed text) n l' placed.1) feed_kind plain-rest

      pub sound_at : (r : ℕ) → r < length l → Sound (at l r)
      sound_at r h = all-at Sound l r nothing (sound_all l sound) h

      -- behind the item nothing, or its comment, before the line feed
      pub remark : (e : ℕ) → e ≡ x.end → seen state_in (between l e b) ≡ []
      unfolding newline_at seen
      remark e q =
          by_test_lem (eqb (peek W e).kind 12)
          (λ y.
          let z : b ≡ e + 1 = b_is ∙ inside.ends ∙ ap (newline_at W) (sym q) ∙ rw y in
          let none_here : state_in (at l e).kind ≡ None = no_state (at l e) 12 (sound_at e (omega (arith, short))) (ap (λ (w : Token). eqb w.kind 12) (sym (peek-map l e)) ∙ y) (λ z. omega arith) in
          ap (λ (m : ℕ). seen state_in (between l e m)) z ∙ ap (seen state_in) (between-one l e (omega (arith, short))) ∙ seen_none state_in (at l e) [] none_here)
          (λ n.
          let z : b ≡ e = b_is ∙ inside.ends ∙ ap (newline_at W) (sym q) ∙ rw n in
          ap (λ (m : ℕ). seen state_in (between l e m)) z ∙ ap (seen state_in) (between_none l e))

      -- the names of a set
      pub names_in : lead_of x.kind ≡ Equals → AllNames text E (names_from (suc i) (drop (suc i) E)) (seen state_in (between l x.value x.end))
      names_in lead =
          let a = inside.assigned lead in
          let e : ℕ = x.end in
          let n : ℕ = b - 1 in
          let more : b ≡ suc n = omega (arith, b_is, inside.behind) in
          let within : e ≤ b = omega (arith, b_is, inside.behind) in
          let two : x.value ≡ 2 = a.0 in
          let start : body n more ≡ between l 1 b = refl in
          let parts : between l 1 b ≡ between l 1 2 ++ (between l 2 e ++ between l e b) =
          between_split l 1 2 b (omega arith) (omega arith) ∙ ap (λ (y : Tokens). between l 1 2 ++ y) (between_split l 2 e b (omega arith) within) in
          let sign : between l 1 2 ≡ at l 1 ∷ [] = between-one l 1 (omega (arith, short)) in
          let eq-none : state_in (at l 1).kind ≡ None = no_state (at l 1) 9 (sound_at 1 (omega (arith, short))) (ap (λ (w : Token). eqb w.kind 9) (sym (peek-map l 1)) ∙ a.1) (λ z. omega arith) in
          let shown : seen state_in (body n more) ≡ seen state_in (between l x.value e) =
          ap (seen state_in) (start ∙ parts ∙ ap (λ (y : Tokens). y ++ (between l 2 e ++ between l e b)) sign) ∙ seen_none state_in (at l 1) (between l 2 e ++ between l e b) eq-none
          ∙ seen-append state_in (between l 2 e) (between l e b) ∙ ap (λ (y : List (Located Place (List ℕ))). seen state_in (between l 2 e) ++ y) (remark e refl)
          ∙ append-nil (seen state_in (between l 2 e)) ∙ ap (λ (m : ℕ). seen state_in (between l m e)) (sym two) in
          subst (AllNames text E (names_from (suc i) (drop (suc i) E))) shown (names-found n more)

      -- the value of `tapes`
      pub tapes_in : x.kind ≡ Tapes → TapesMean entry (located number_in 0 (at l x.value))
      unfolding lead_of
      tapes_in k =
          let a = inside.assigned (ap lead_of k) in
          let third : peek (drop (suc i) E) 1 ≡ token_of (at l 2) = plain_at 1 (omega (arith, b_is, inside.behind, a.2)) in
          let kind : eqb (token_of (at l 2)).kind 1 ≡ true = ap (λ (w : Token). eqb w.kind 1) (sym (peek-map l 2)) ∙ inside.tapes k in
          let place : place_of (token_of (at l 2)) ≡ (at l 2).place = token_place (at l 2) in
          record {
            large = ap (λ (w : Token). ltb 255 w.value) third ∙ number_large (at l 2) (sound_at 2 (omega (arith, short, b_is, inside.behind, a.2))) kind
                ∙ ap (λ (r : ℕ). ltb 255 (or_else 0 (number_in (at l r).kind))) (sym a.0);
            place = ap place_of third ∙ place ∙ ap (λ (r : ℕ). (at l r).place) (sym a.0);
          }

    -- entering a rule changes the tokens behind δ and behind its state too
    module _ (rule : x.kind ≡ Transition) where
      abbrev pub q : Parts
      q = x.parts

      abbrev pub base : List Token
      base = item_entry i x ∷ map token_of l'

      pub rule-L : L ≡ set (set base 1 (counts_of q)) 3 (parts_of i q)
      unfolding with_parts
      rule-L = L-is ∙ ap (λ (k : ItemKind). with_parts k i x.parts (item_entry i x ∷ map token_of l')) rule

      pub parts_in : PartsIn W x.end x.parts
      parts_in = inside.parts rule

      pub rule-counted : Counted l x
      rule-counted = subst (λ (k : ItemKind). CountedAs l k x) rule counted

      pub size_base : length base ≡ length l
      size_base = ap suc (length-map l' token_of)

      pub long : 3 < b
      long = omega (arith, b_is, inside.behind, parts_in.long)

      pub counts_at_lem : peek (drop (suc i) E) 0 ≡ counts_of q
      counts_at_lem =
          rest_at 0 (omega (arith, long)) ∙ ap (λ (y : List Token). peek y 1) rule-L ∙ get_or-set_other (set base 1 (counts_of q)) 3 1 (parts_of i q) ended (λ z. omega arith)
          ∙ get_or-set_same base 1 (counts_of q) ended (omega (arith, size_base, short, long))

      pub parts_at : peek (drop (suc i) E) 2 ≡ parts_of i q
      parts_at =
          rest_at 2 (omega (arith, long)) ∙ ap (λ (y : List Token). peek y 3) rule-L
          ∙ get_or-set_same (set base 1 (counts_of q)) 3 (parts_of i q) ended (omega (arith, length-set base 1 (counts_of q), size_base, short, long))

      pub beyond : (r : ℕ) → 4 + r ≤ b → peek E (i + (4 + r)) ≡ peek W (4 + r)
      beyond r h =
          row_at (4 + r) h ∙ ap (λ (y : List Token). peek y (4 + r)) rule-L ∙ get_or-set_other (set base 1 (counts_of q)) 3 (4 + r) (parts_of i q) ended (λ z. omega arith)
          ∙ get_or-set_other base 1 (4 + r) (counts_of q) ended (λ z. omega arith) ∙ behind-first r
        where
          behind-first : (r : ℕ) → peek base (4 + r) ≡ peek W (4 + r)
          behind-first r = let z : 4 + r ≡ suc (3 + r) = omega arith in ap (peek base) z ∙ ap (peek W) (sym z)

      -- what a rule reads
      abbrev pub m : ℕ
      m = q.to - 4

      pub read-size : length (read_part entry) ≡ m
      unfolding read_part
      read-size =
          let e : length (drop i E) ≡ length E - i = length-drop i E in
          let s : length (drop i E) ≡ suc b + length R = ap length split ∙ length-append (take (suc b) L) R ∙ ap (λ (n : ℕ). n + length R) size-line in
          let p : (peek (drop (suc i) E) 2).start - (i + 4) ≡ m = ap (λ (w : Token). w.start - (i + 4)) parts_at ∙ omega (arith, parts_in.next.0) in
          ap (λ (n : ℕ). length (take n (drop 3 (drop (suc i) E)))) p ∙ length-take m (drop 3 (drop (suc i) E))
          ∙ min-eq_left {n = m} {m = length (drop 3 (drop (suc i) E))} (omega (arith, length-drop 3 (drop (suc i) E), length-drop (suc i) E, b_is, inside.behind, parts_in.next.1))

      pub read_is : read_part entry ≡ take m (drop 4 W)
      unfolding read_part
      read_is =
          let p : (peek (drop (suc i) E) 2).start - (i + 4) ≡ m = ap (λ (w : Token). w.start - (i + 4)) parts_at ∙ omega (arith, parts_in.next.0) in
          let size-W : length (take m (drop 4 W)) ≡ m = length-take m (drop 4 W) ∙ min-eq_left {n = m} {m = length (drop 4 W)} (omega (arith, length-drop 4 W, parts_in.to)) in
          ext_get_or ended (read_part entry) (take m (drop 4 W)) (read-size ∙ sym size-W) λ r h.
          let low : r < m = omega (arith, read-size) in
          let z : suc i + (3 + r) ≡ i + (4 + r) = omega arith in
          ap (λ (n : ℕ). get_or (take n (drop 3 (drop (suc i) E))) r ended) p ∙ get_or-take m (drop 3 (drop (suc i) E)) r ended low ∙ get_or-drop 3 (drop (suc i) E) r ended
          ∙ get_or-drop (suc i) E (3 + r) ended ∙ ap (peek E) z ∙ beyond r (omega (arith, b_is, inside.behind, parts_in.next.1))
          ∙ sym (get_or-take m (drop 4 W) r ended low ∙ get_or-drop 4 W r ended)

      pub rule_in_lem : RuleMeans entry (rule_of l q x.end)
      unfolding rule_of
      rule_in_lem =
          let c = rule-counted in
          let tokens-are : take m (drop 4 W) ≡ map token_of (between l 4 q.to) = ap (take m) (drop-map 4 l) ∙ take-map m (drop 4 l) in
          let even : balanced false (map token_of (between l 4 q.to)) ≡ true = ap (balanced false) (sym tokens-are) ∙ parts_in.even in
          let ok : AllSound (between l 4 q.to) = all_sound (between l 4 q.to) (all_take Sound m (drop 4 l) (all_drop Sound 4 l (sound_all l sound))) in
          record {
            reads = ap (λ (w : Token). w.start) counts_at_lem ∙ c.reads;
            writes = ap (λ (w : Token). w.end) counts_at_lem ∙ c.writes;
            dirs = ap (λ (w : Token). w.value) counts_at_lem ∙ c.dirs;
            product =
                ap combinations (read_is ∙ tokens-are) ∙ sets_mean (between l 4 q.to) ok even
                ∙ ap (λ (n : ℕ). min (A.combinations (read_sets false (between l n q.to))) 262145) (sym parts_in.read);
          }

    -- ---- what the item's entry means
    abbrev pub meant : Item Place
    meant = item_means l x.kind x.value x.end x.parts

    pub order_is : (k : ItemKind) → item_order (item_means l k x.value x.end x.parts) ≡ item_number k
    unfolding item_means item_order item_number
    order_is Machine = refl
    order_is Kind = refl
    order_is Input = refl
    order_is Output = refl
    order_is Tapes = refl
    order_is States = refl
    order_is InputAlphabet = refl
    order_is TapeAlphabet = refl
    order_is Blank = refl
    order_is Start = refl
    order_is Final = refl
    order_is Transition = refl

    pub plain-kind : (k : ItemKind) → x.kind ≡ k → (item_number k ≡ 11 → ⊥) → item_number x.kind ≡ 11 → ⊥
    plain-kind k e h z = h (ap item_number (sym e) ∙ z)

    pub tapes_of_lem : (k : ItemKind) → x.kind ≡ k → TapesOf entry (item_means l k x.value x.end x.parts)
    unfolding item_means item_number
    tapes_of_lem Machine e = tt
    tapes_of_lem Kind e = tt
    tapes_of_lem Input e = tt
    tapes_of_lem Output e = tt
    tapes_of_lem Tapes e = tapes_in (plain-kind Tapes e (λ z. omega arith)) e
    tapes_of_lem States e = tt
    tapes_of_lem InputAlphabet e = tt
    tapes_of_lem TapeAlphabet e = tt
    tapes_of_lem Blank e = tt
    tapes_of_lem Start e = tt
    tapes_of_lem Final e = tt
    tapes_of_lem Transition e = tt

    pub names_of_lem : (k : ItemKind) → x.kind ≡ k → NamesIn text E entry (item_means l k x.value x.end x.parts)
    unfolding item_means item_number lead_of
    names_of_lem Machine e = tt
    names_of_lem Kind e = tt
    names_of_lem Input e = tt
    names_of_lem Output e = tt
    names_of_lem Tapes e = tt
    names_of_lem States e = names_in (plain-kind States e (λ z. omega arith)) (ap lead_of e)
    names_of_lem InputAlphabet e = tt
    names_of_lem TapeAlphabet e = tt
    names_of_lem Blank e = tt
    names_of_lem Start e = tt
    names_of_lem Final e = names_in (plain-kind Final e (λ z. omega arith)) (ap lead_of e)
    names_of_lem Transition e = tt

    pub rules_of : (k : ItemKind) → x.kind ≡ k → RulesOf entry (item_means l k x.value x.end x.parts)
    unfolding item_means
    rules_of Machine e = tt
    rules_of Kind e = tt
    rules_of Input e = tt
    rules_of Output e = tt
    rules_of Tapes e = tt
    rules_of States e = tt
    rules_of InputAlphabet e = tt
    rules_of TapeAlphabet e = tt
    rules_of Blank e = tt
    rules_of Start e = tt
    rules_of Final e = tt
    rules_of Transition e = rule_in_lem e

    pub asked : RulesOf entry meant × NamesIn text E entry meant
    asked = (rules_of x.kind refl, names_of_lem x.kind refl)

    item_means_lem : (X : Entry → Item Place → Type 0) → X entry meant → ItemMeans X entry meant x.span
    unfolding item_entry
    item_means_lem X more = record {
      kind = ap (λ (w : Token). w.kind) entry_is ∙ ap (λ (n : ℕ). 16 + n) (sym (order_is x.kind));
      place = ap place_of entry_is;
      tapes = tapes_of_lem x.kind refl;
      more = more;
    }

  -- ---- what the line's entry means
  pub line_means_lem : (X : Entry → Item Place → Type 0) → ((x : Found) → line W 0 ≡ Read x → X entry (item_means l x.kind x.value x.end x.parts)) → (y : Answer) → line W 0 ≡ y
      → Means X entry (line_means l y)
  unfolding line_means enter_line enter_as failed_entry
  line_means_lem X of Empty e =
      let h : eqb (peek W 0).kind 13 ≡ true = subst (LineIn W) e (line_in W) in
      let w : peek E i ≡ token_of t = first_is ∙ ap (λ (y : Answer). peek (enter_as y i W) 0) e in
      omega (arith, ap (λ (w : Token). w.kind) w, eqb-true (token_of t).kind 13 h)
  line_means_lem X of (Comment k) e =
      let h : (eqb (peek W 0).kind 12 ≡ true) × (eqb (peek W 1).kind 13 ≡ true) = subst (LineIn W) e (line_in W) in
      let w : peek E i ≡ token_of t = first_is ∙ ap (λ (y : Answer). peek (enter_as y i W) 0) e in
      omega (arith, ap (λ (w : Token). w.kind) w, eqb-true (token_of t).kind 12 h.0)
  line_means_lem X of (Read x) e = item_means_lem x e X (of x e)
  line_means_lem X of (Err bad) e =
      let w : peek E i ≡ failed_entry i (code_number bad.code) bad.span (line_end W 0) = first_is ∙ ap (λ (y : Answer). peek (enter_as y i W) 0) e in
      (ap (λ (w : Token). w.kind) w, ap place_of w)

-- ---- all lines
-- what P says of each line of the row from an index on, and of the index where it begins
pub data Lines (P : ℕ → Line Place → Type 0) (ts : List Token) : ℕ → List (Line Place) → Type 0 where
  lines_end : {i : ℕ} → i ≡ length ts → Lines P ts i []
  lines-on : {i : ℕ} {l : Line Place} {ls : List (Line Place)} → i < length ts → P i l → Lines P ts (i + 1 + behind i (peek ts i)) ls → Lines P ts i (l ∷ ls)

-- the entries of a row of lines mean what P says of these
pub lines_mean : (X : Entry → Item Place → Type 0) (P : ℕ → Line Place → Type 0) (ts : List Token) → ((i : ℕ) (l : Line Place) → P i l → Means X (entry_at ts i) l)
    → (i : ℕ) (ls : List (Line Place)) → Lines P ts i ls → AllMean X ts (entries_at ts i) ls
lines_mean X P ts f i [] (lines_end h) = subst (λ (es : List Entry). AllMean X ts es []) (sym (entries-end ts i (omega arith))) no_lines
lines_mean X P ts f i (l ∷ ls) (lines-on h p r) =
    subst (λ (es : List Entry). AllMean X ts es (l ∷ ls)) (sym (entries-step ts i h)) (one_line h refl (f i l p) (lines_mean X P ts f (i + 1 + behind i (peek ts i)) ls r))

module _ (text : List ℕ) (E : List Token) (P : ℕ → Line Place → Type 0)
    (of : (i : ℕ) (t : Lexed Place) (l : Tokens) → AllLexed (t ∷ l) → All (Placed text) (t ∷ l) → drop i E ≡ entered_from [] i (map token_of (t ∷ l)) → P i (line_means (t ∷ l) (line (map token_of (t ∷ l)) 0))) where
  -- the lines of the tokens l, from the index i on, where there are no more than n tokens
  abbrev From : ℕ → Type 0
  From n = (i : ℕ) (l : Tokens) → length l ≤ n → AllLexed l → All (Placed text) l → i ≤ length E → drop i E ≡ entered_from [] i (map token_of l) → Lines P E i (lines covering l)

  none_from : (i : ℕ) → i ≤ length E → drop i E ≡ entered_from [] i [] → Lines P E i (lines covering [])
  unfolding lines rows entered_from
  none_from i h d = let e : i ≡ length E = omega (arith, length-drop i E, ap length d) in lines_end e

  more_from : (n : ℕ) → From n → From (suc n)
  more_from n ih i [] h a p low d = none_from i low d
  more_from n ih i (t ∷ l) h a p low d =
      let k : ℕ = suc (b text E i t l a p d) in
      let few : length (drop k (t ∷ l)) ≤ n = omega (arith, length-drop k (t ∷ l)) in
      let rest = ih (i + k) (drop k (t ∷ l)) few (lexed_drop k (t ∷ l) a) (all_drop (Placed text) k (t ∷ l) p) (fits text E i t l a p d) (next_row text E i t l a p d) in
      rw (next-lines text E i t l a p d) (lines-on (below text E i t l a p d) (of i t l a p d) (subst (λ (j : ℕ). Lines P E j (lines covering (drop k (t ∷ l)))) (sym (next-at text E i t l a p d)) rest))

  few_from : (i : ℕ) (l : Tokens) → length l ≤ 0 → i ≤ length E → drop i E ≡ entered_from [] i (map token_of l) → Lines P E i (lines covering l)
  few_from i [] h low d = none_from i low d
  few_from i (t ∷ l) h low d = absurd (omega arith)

  pub lines_from : (n : ℕ) → From n
  lines_from zero = λ i l h a p low d. few_from i l h low d
  lines_from (suc n) = more_from n (lines_from n)

-- the entries of the row of a text's tokens
module _ (text : List ℕ) (l : Tokens) (a : AllLexed l) (p : All (Placed text) l) where
  abbrev row_of : List Token
  row_of = entered (map token_of l)

  abbrev Asked : Entry → Item Place → Type 0
  Asked e k = RulesOf e k × NamesIn text (entered (map token_of l)) e k

  pub entries_mean : AllMean (λ e k. RulesOf e k × NamesIn text (entered (map token_of l)) e k) (entered (map token_of l)) (entries (entered (map token_of l))) (lines covering l)
  unfolding entries entered
  entries_mean =
      lines_mean Asked (λ i y. Means Asked (entry_at row_of i) y) row_of (λ i y m. m) 0 (lines covering l)
      (lines_from text row_of (λ i y. Means Asked (entry_at row_of i) y) (λ i t r a p d. line_means_lem text row_of i t r a p d Asked (asked text row_of i t r a p d) (line (map token_of (t ∷ r)) 0) refl)
      (length l) 0 l (omega arith) a p (omega arith) refl)
