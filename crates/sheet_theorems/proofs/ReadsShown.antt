-- The read sets of a rule: the entries of the row, one after another, are the sets that the language sees in their tokens.
use mathlib.Core.Path.{◌≡◌, refl, sym, ap, subst, ◌∙◌}
use mathlib.Core.Bool.{Bool, true, false}
use mathlib.Core.List.{List, [], ◌∷◌, map}
use Rattle.std.specs.Prelude.{Option, None, Some}
use Prim.Native.Nat.{ℕ, zero, suc, ◌+◌, ◌*◌, ◌≤◌, ◌<◌}
use native.Mathlib.Omega.{arith}
use borrow.Author.Tests.{ne_eqb, eqb-true, eqb-false}
use lib.Dec.{eqb}
use lib.ListN.{length, drop}
use lib.Seq.{drop-cons, drop-drop}
use Rattle.diag.proofs.Cases.{by_test_lem}
use Rattle.diag.specs.declared.Span.{Span as Place}
use Rattle.lexer.specs.Tokens.{TokenKind, Token as Lexed}
use Rattle.lexer.proofs.Steps.{Good}
use Rattle.tokens.specs.declared.Token.{Token}
use Rattle.parser.specs.Row.{peek, ended}
use Rattle.parser.specs.Views.{is_symbol}
use Rattle.parser.specs.Lines.{Done, then, unexpected, one, separator, entries_from, entries, tuple, read_entry}
use Rattle.parser.specs.Meaning.{token_of, at, between, Sound, ReadPart, opens, closes, passes, reads, read_part, joins, outside, inside, read_sets}
use Rattle.parser.proofs.Lists.{done_same, read_steps}
use Rattle.language.specs.Machine.{Located}
use Rattle.language.specs.Parser.{is_sign}
use Rattle.language.specs.Lines.{RawSymbol, symbol_in}
use Rattle.assembler.proofs.Braces.{false_true, symbol_brace, not_brace, one_done, separator_done}
use Rattle.assembler.proofs.Inside.{then_done, done_within}
use Rattle.assembler.proofs.SetsMean.{Reads, read_by}
use Rattle.assembler.proofs.EntriesMean.{Tokens}
use Rattle.sheet.specs.Wheels as S
use Rattle.sheet.specs.Rules.{first_entry}
use Rattle.sheet_theorems.proofs.Shows.{Both, no_members, members, SymbolShows}
use Rattle.sheet_theorems.proofs.TokensShow.{symbol_shown}
use Rattle.sheet_theorems.proofs.ListsShown.{Series, last_one, one_more, series_high, failed_done, entries_series, between_first, RowOf, token_is, first_entry_lem}

-- ---- what a token is where read entries are due
abbrev Members : Type 0
Members = List (Located Place RawSymbol)

pub both_values : {X : Type 0} (t : Bool) → t ≡ true → t ≡ false → X
both_values t y n = false_true (sym n ∙ y)

module _ (t : Token) where
  part-open : (r : ReadPart) → Reads r t → eqb t.kind 6 ≡ true → r ≡ opens
  part-open opens h e = refl
  part-open closes h e = both_values (eqb t.kind 6) e h.0
  part-open (reads s) h e = both_values (eqb t.kind 6) e h.0
  part-open passes h e = both_values (eqb t.kind 6) e h.0

  part_close : (r : ReadPart) → Reads r t → eqb t.kind 6 ≡ false → eqb t.kind 7 ≡ true → r ≡ closes
  part_close opens h n e = both_values (eqb t.kind 6) h n
  part_close closes h n e = refl
  part_close (reads s) h n e = both_values (eqb t.kind 7) e h.1
  part_close passes h n e = both_values (eqb t.kind 7) e h.1

  part-pass : (r : ReadPart) → Reads r t → eqb t.kind 6 ≡ false → eqb t.kind 7 ≡ false → is_symbol t ≡ false → r ≡ passes
  part-pass opens h n m e = both_values (eqb t.kind 6) h n
  part-pass closes h n m e = both_values (eqb t.kind 7) h.1 m
  part-pass (reads s) h n m e = both_values (is_symbol t) h.2 e
  part-pass passes h n m e = refl

-- a token of a kind that no symbol has
pub other-symbol : (t : Token) (n : ℕ) → 2 < n → (n ≡ 11 → ⊥) → eqb t.kind n ≡ true → is_symbol t ≡ false
unfolding is_symbol
other-symbol t n h g e =
    let k : t.kind ≡ n = eqb-true t.kind n e in
    rw (ne_eqb t.kind 0 (omega arith), ne_eqb t.kind 1 (omega arith), ne_eqb t.kind 2 (omega arith), ne_eqb t.kind 11 (λ q. g (sym k ∙ q)))

pub reads-symbol : (k : TokenKind) (s : RawSymbol) → read_part k ≡ reads s → symbol_in k ≡ Some s
unfolding read_part
reads-symbol k s e = go (is_sign 0x7B k) (is_sign 0x7D k) (symbol_in k) e
  where
    go : (a b : Option Bool) (c : Option RawSymbol) → ◌≡◌ {A = ReadPart} (elim a [ Some _ ↦ opens | None ↦ elim b [ Some _ ↦ closes | None ↦ elim c [ Some s ↦ reads s | None ↦ passes ] ] ]) (reads s) → c ≡ Some s
    go (Some x) b c e = absurd (let z : ◌≡◌ {A = ℕ} 0 1 = cc in omega arith)
    go None (Some x) c e = absurd (let z : ◌≡◌ {A = ℕ} 0 1 = cc in omega arith)
    go None None (Some y) e = let z : y ≡ s = cc in ap Some z
    go None None None e = absurd (let z : ◌≡◌ {A = ℕ} 0 1 = cc in omega arith)

-- a symbol's
record SymbolRead (t : Lexed Place) : Type 0 where
  symbol : RawSymbol
  part : read_part t.kind ≡ reads symbol
  shown : SymbolShows (token_of t) (record { value = symbol; place = t.place })

symbol-read : (t : Lexed Place) → Sound t → Good t.kind → is_symbol (token_of t) ≡ true → SymbolRead t
symbol-read t s g e = go (read_part t.kind) refl (read_by t s)
  where
    go : (r : ReadPart) → read_part t.kind ≡ r → Reads r (token_of t) → SymbolRead t
    go opens q h = both_values (eqb (token_of t).kind 6) h (symbol_brace (token_of t) e).0
    go closes q h = both_values (eqb (token_of t).kind 7) h.1 (symbol_brace (token_of t) e).1
    go (reads x) q h = record { symbol = x; part = q; shown = symbol_shown t x g (reads-symbol t.kind x q) }
    go passes q h = both_values (is_symbol (token_of t)) e h.2

-- the sets with one token more in front
pub outside_by : (t : Lexed Place) (m : Tokens) (r : ReadPart) → read_part t.kind ≡ r → read_sets false (t ∷ m) ≡ outside r t.place (read_sets false m) (read_sets true m)
unfolding read_sets
outside_by t m r e = ap (λ (r : ReadPart). outside r t.place (read_sets false m) (read_sets true m)) e

pub inside_by : (t : Lexed Place) (m : Tokens) (r : ReadPart) → read_part t.kind ≡ r → read_sets true (t ∷ m) ≡ inside r t.place (read_sets false m) (read_sets true m)
unfolding read_sets
inside_by t m r e = ap (λ (r : ReadPart). inside r t.place (read_sets false m) (read_sets true m)) e

-- ---- the row's sets
members_by : (t s : Token) (r : List Token) (b : Bool) → eqb s.kind 8 ≡ b → S.members (t ∷ s ∷ r) ≡ elim b [ true ↦ t ∷ S.members r | false ↦ t ∷ [] ]
unfolding S.members
members_by t s r b e = ap (λ (b : Bool). elim b [ true ↦ t ∷ S.members r | false ↦ t ∷ [] ]) e

sets_by : (n : ℕ) (t : Token) (r : List Token) (b : Bool) → eqb t.kind 6 ≡ b
    → S.read_sets (suc n) (t ∷ r) ≡ elim b [ true ↦ S.members r ∷ S.read_sets n (drop (2 * length (S.members r) + 1) r) | false ↦ (t ∷ []) ∷ S.read_sets n (drop 1 r) ]
unfolding S.read_sets
sets_by n t r b e = ap (λ (b : Bool). elim b [ true ↦ S.members r ∷ S.read_sets n (drop (2 * length (S.members r) + 1) r) | false ↦ (t ∷ []) ∷ S.read_sets n (drop 1 r) ]) e

module _ (E : List Token) (o b : ℕ) (l : Tokens) (row : RowOf E o b l) where
  abbrev W : List Token
  W = map token_of l

  drop-one : (r : ℕ) → r ≤ b → drop (o + r) E ≡ peek E (o + r) ∷ drop (o + (r + 1)) E
  drop-one r h = let z : suc (o + r) ≡ o + (r + 1) = omega arith in drop-cons E (o + r) ended (omega (arith, row.fits)) ∙ ap (λ (k : ℕ). peek E (o + r) ∷ drop k E) z

  first_of : (r k : ℕ) → r < k → r ≤ b → between l r k ≡ at l r ∷ between l (r + 1) k
  first_of r k h g = between_first l r k h (omega (arith, row.short))

  -- a test of the row's token
  kind_at : (n : ℕ) (x : Bool) (r : ℕ) → 4 ≤ r → r ≤ b → eqb (peek W r).kind n ≡ x → eqb (peek E (o + r)).kind n ≡ x
  kind_at n x r h g e = ap (λ (t : Token). eqb t.kind n) (row.same r h g) ∙ token_is E o b l row (λ t. eqb t.kind n) x r e

  pass-part : (r n : ℕ) → r ≤ b → 3 < n → n < 10 → (n ≡ 6 → ⊥) → (n ≡ 7 → ⊥) → eqb (peek W r).kind n ≡ true → read_part (at l r).kind ≡ passes
  pass-part r n h a c f g e =
      let k : eqb (token_of (at l r)).kind n ≡ true = token_is E o b l row (λ t. eqb t.kind n) true r e in
      let z = not_brace (token_of (at l r)) n k f g in
      part-pass (token_of (at l r)) (read_part (at l r).kind) (read_by (at l r) (row.sound r h)) z.0 z.1 (other-symbol (token_of (at l r)) n (omega arith) (λ q. omega arith) k)

  -- a sign is passed over
  pub passed : (r n k : ℕ) → r ≤ b → r < k → 3 < n → n < 10 → (n ≡ 6 → ⊥) → (n ≡ 7 → ⊥) → eqb (peek W r).kind n ≡ true → read_sets false (between l r k) ≡ read_sets false (between l (r + 1) k)
  unfolding outside
  passed r n k h low a c f g e = ap (read_sets false) (first_of r k low h) ∙ outside_by (at l r) (between l (r + 1) k) passes (pass-part r n h a c f g e)

  symbol-at : (r : ℕ) → r ≤ b → is_symbol (peek W r) ≡ true → SymbolRead (at l r)
  symbol-at r h e = symbol-read (at l r) (row.sound r h) (row.good r h) (token_is E o b l row is_symbol true r e)

  shown_at : (r : ℕ) → 4 ≤ r → r ≤ b → (x : Located Place RawSymbol) → SymbolShows (token_of (at l r)) x → SymbolShows (peek E (o + r)) x
  shown_at r low h x m = subst (λ (t : Token). SymbolShows t x) (sym (row.same r low h)) m

  -- ---- the members of a set, from the index c on, with `}` before the index j
  record SetShown (c j k : ℕ) : Type 0 where
    set : Members
    shown : Both SymbolShows (S.members (drop (o + c) E)) set
    sets : read_sets true (between l c k) ≡ set ∷ read_sets false (between l j k)
    size : j ≡ c + 2 * length (S.members (drop (o + c) E))

  module _ (c j k : ℕ) (low : 4 ≤ c) (high : c + 2 ≤ k) (top : k ≤ suc b) (y : is_symbol (peek W c) ≡ true) where
    abbrev x : Located Place RawSymbol
    x = record { value = (symbol-at c (omega arith) y).symbol; place = (at l c).place }

    abbrev two : ℕ
    two = c + 1 + 1

    tokens-at : drop (o + c) E ≡ peek E (o + c) ∷ peek E (o + (c + 1)) ∷ drop (o + (c + 1 + 1)) E
    tokens-at = drop-one c (omega arith) ∙ ap (λ (r : List Token). peek E (o + c) ∷ r) (drop-one (c + 1) (omega arith))

    set_in : read_sets true (between l c k) ≡ joins x (read_sets true (between l (c + 1) k))
    unfolding inside
    set_in = ap (read_sets true) (first_of c k (omega arith) (omega arith)) ∙ inside_by (at l c) (between l (c + 1) k) (reads (symbol-at c (omega arith) y).symbol) (symbol-at c (omega arith) y).part

    member_shown : SymbolShows (peek E (o + c)) x
    member_shown = shown_at c low (omega arith) x (symbol-at c (omega arith) y).shown

    set_last : eqb (peek W (c + 1)).kind 7 ≡ true → j ≡ c + 2 → SetShown c j k
    unfolding inside joins
    set_last e q =
        let t : Token = token_of (at l (c + 1)) in
        let k₇ : eqb t.kind 7 ≡ true = token_is E o b l row (λ t. eqb t.kind 7) true (c + 1) e in
        let n₆ : eqb t.kind 6 ≡ false = (let z : t.kind ≡ 7 = eqb-true t.kind 7 k₇ in ne_eqb t.kind 6 (omega arith)) in
        let n₈ : eqb (peek E (o + (c + 1))).kind 8 ≡ false = (let z : (peek E (o + (c + 1))).kind ≡ 7 = eqb-true (peek E (o + (c + 1))).kind 7 (kind_at 7 true (c + 1) (omega arith) (omega arith) e) in ne_eqb (peek E (o + (c + 1))).kind 8 (omega arith)) in
        let ms : S.members (drop (o + c) E) ≡ peek E (o + c) ∷ [] = ap S.members tokens-at ∙ members_by (peek E (o + c)) (peek E (o + (c + 1))) (drop (o + (c + 1 + 1)) E) false n₈ in
        let z : c + 1 + 1 ≡ j = omega arith in
        record {
          set = x ∷ [];
          shown = subst (λ (m : List Token). Both SymbolShows m (x ∷ [])) (sym ms) (members member_shown no_members);
          sets = set_in ∙ ap (joins x) (ap (read_sets true) (first_of (c + 1) k (omega arith) (omega arith)) ∙ inside_by (at l (c + 1)) (between l (c + 1 + 1) k) closes
              (part_close t (read_part (at l (c + 1)).kind) (read_by (at l (c + 1)) (row.sound (c + 1) (omega arith))) n₆ k₇)) ∙ ap (λ (m : ℕ). (x ∷ []) ∷ read_sets false (between l m k)) z;
          size = q ∙ ap (λ (m : List Token). c + 2 * length m) (sym ms);
        }

    set_more : eqb (peek W (c + 1)).kind 8 ≡ true → SetShown (c + 2) j k → SetShown c j k
    unfolding inside joins
    set_more e m =
        let n₈ : eqb (peek E (o + (c + 1))).kind 8 ≡ true = kind_at 8 true (c + 1) (omega arith) (omega arith) e in
        let z : c + 1 + 1 ≡ c + 2 = omega arith in
        let ms : S.members (drop (o + c) E) ≡ peek E (o + c) ∷ S.members (drop (o + (c + 2)) E) =
        ap S.members tokens-at ∙ members_by (peek E (o + c)) (peek E (o + (c + 1))) (drop (o + (c + 1 + 1)) E) true n₈ ∙ ap (λ (r : ℕ). peek E (o + c) ∷ S.members (drop (o + r) E)) z in
        record {
          set = x ∷ m.set;
          shown = subst (λ (r : List Token). Both SymbolShows r (x ∷ m.set)) (sym ms) (members member_shown m.shown);
          sets = set_in ∙ ap (joins x) (ap (read_sets true) (first_of (c + 1) k (omega arith) (omega arith)) ∙ inside_by (at l (c + 1)) (between l (c + 1 + 1) k) passes
              (pass-part (c + 1) 8 (omega arith) (omega arith) (omega arith) (λ z. omega arith) (λ z. omega arith) e) ∙ ap (λ (r : ℕ). read_sets true (between l r k)) z ∙ m.sets);
          size = m.size ∙ omega (arith, ap length ms);
        }

  set_shown : (c j k : ℕ) → 4 ≤ c → Series is_symbol 7 W c j → j ≤ k → k ≤ suc b → SetShown c j k
  set_shown c j k low (last_one y e q) h top = set_last c j k low (omega arith) top y e q
  set_shown c j k low (one_more y e s) h top =
      set_more c j k low (omega (arith, series_high is_symbol 7 W (c + 2) j s)) top y e (set_shown (c + 2) j k (omega arith) s h top)

  -- ---- one entry, from the index i to before j
  record EntryShown (i j k : ℕ) : Type 0 where
    set : Members
    row_set : List Token
    shown : Both SymbolShows row_set set
    row_sets : (n : ℕ) → S.read_sets (suc n) (drop (o + i) E) ≡ row_set ∷ S.read_sets n (drop (o + (j + 1)) E)
    sets : read_sets false (between l i k) ≡ set ∷ read_sets false (between l j k)

  entry_shown : (i j n k : ℕ) → 4 ≤ i → read_entry W i ≡ Done j n → j ≤ k → k ≤ suc b → EntryShown i j k
  unfolding read_entry outside
  entry_shown i j n k low e h top =
      let within = done_within read_entry W i j n read_steps e in
      by_test_lem (eqb (peek W i).kind 6)
      (λ y.
      then_done (entries (one is_symbol) 7 W (i + 1) 0) (λ j _. Done j 1) j n (rw y at e) λ a x u v.
      let a_is : a ≡ j = (done_same v).0 in
      let ser : Series is_symbol 7 W (i + 1) j = subst (Series is_symbol 7 W (i + 1)) a_is (entries_series (one is_symbol) is_symbol (one_done is_symbol) 7 W (i + 1) a x u) in
      let m = set_shown (i + 1) j k (omega arith) ser h top in
      let ms : List Token = S.members (drop (o + (i + 1)) E) in
      let end : o + (i + 1) + (2 * length ms + 1) ≡ o + (j + 1) = omega (arith, m.size) in
      record {
        set = m.set;
        row_set = S.members (drop (o + (i + 1)) E);
        shown = m.shown;
        row_sets = λ n.
            ap (S.read_sets (suc n)) (drop-one i (omega arith)) ∙ sets_by n (peek E (o + i)) (drop (o + (i + 1)) E) true (kind_at 6 true i low (omega arith) y)
            ∙ ap (λ (r : List Token). ms ∷ S.read_sets n r) (drop-drop (2 * length ms + 1) (o + (i + 1)) E ∙ ap (λ (k : ℕ). drop k E) end);
        sets = ap (read_sets false) (first_of i k (omega arith) (omega arith)) ∙ outside_by (at l i) (between l (i + 1) k) opens
            (part-open (token_of (at l i)) (read_part (at l i).kind) (read_by (at l i) (row.sound i (omega arith))) (token_is E o b l row (λ t. eqb t.kind 6) true i y)) ∙ m.sets;
      })
      (λ x.
      let one_of_lem = one_done is_symbol W i j n (rw x at e) in
      let q = symbol-at i (omega arith) one_of_lem.1 in
      let v : Located Place RawSymbol = record { value = q.symbol; place = (at l i).place } in
      let end : o + (i + 1) + 1 ≡ o + (j + 1) = omega (arith, one_of_lem.0) in
      record {
        set = v ∷ [];
        row_set = peek E (o + i) ∷ [];
        shown = members (shown_at i low (omega arith) v q.shown) no_members;
        row_sets = λ n.
            ap (S.read_sets (suc n)) (drop-one i (omega arith)) ∙ sets_by n (peek E (o + i)) (drop (o + (i + 1)) E) false (kind_at 6 false i low (omega arith) x)
            ∙ ap (λ (r : List Token). (peek E (o + i) ∷ []) ∷ S.read_sets n r) (drop-drop 1 (o + (i + 1)) E ∙ ap (λ (k : ℕ). drop k E) end);
        sets = ap (read_sets false) (first_of i k (omega arith) (omega arith)) ∙ outside_by (at l i) (between l (i + 1) k) (reads q.symbol) q.part
            ∙ ap (λ (r : ℕ). (v ∷ []) ∷ read_sets false (between l r k)) (sym one_of_lem.0);
      })

  -- ---- all entries
  abbrev Shown : ℕ → ℕ → List Members → Type 0
  Shown n i ms = Both (Both SymbolShows) (S.read_sets n (drop (o + i) E)) ms

  record ListShown (i j n m k : ℕ) : Type 0 where
    many : ℕ
    count : m ≡ n + many
    low : i < j
    shown : Shown many i (read_sets false (between l i k))

  reads_from : (s i n j m k : ℕ) → 4 ≤ i → entries_from read_entry 5 W s i n ≡ Done j m → j ≤ k → k ≤ suc b → read_sets false (between l j k) ≡ [] → ListShown i j n m k
  unfolding entries_from unexpected S.read_sets
  reads_from zero i n j m k low e h top rest = failed_done _ _ j m e
  reads_from (suc s) i n j m k low e h top rest =
      then_done (read_entry W i) (λ j _. then (separator 5 W j) λ next more. elim (eqb more 0) [ true ↦ Done next (n + 1) | false ↦ entries_from read_entry 5 W s next (n + 1) ]) j m e λ a x u v.
      then_done (separator 5 W a) (λ next more. elim (eqb more 0) [ true ↦ Done next (n + 1) | false ↦ entries_from read_entry 5 W s next (n + 1) ]) j m v λ d more p w.
      let within = done_within read_entry W i a x read_steps u in
      let q = separator_done 5 W a d more p in
      by_test_lem (eqb more 0)
      (λ y.
      let z : Done d (n + 1) ≡ Done j m = sym (ap (λ (t : Bool). elim t [ true ↦ Done d (n + 1) | false ↦ entries_from read_entry 5 W s d (n + 1) ]) y) ∙ w in
      let d-is : d ≡ j = (done_same z).0 in
      let m-is : n + 1 ≡ m = (done_same z).1 in
      let r = entry_shown i a x k low u (omega (arith, q.next)) top in
      let one_set : read_sets false (between l i k) ≡ r.set ∷ [] =
      r.sets ∙ ap (λ (y : List Members). r.set ∷ y) (passed a 5 k (omega (arith, q.next)) (omega (arith, q.next)) (omega arith) (omega arith) (λ z. omega arith) (λ z. omega arith) (q.closing (eqb-true more 0 y))
      ∙ ap (λ (r : ℕ). read_sets false (between l r k)) (sym q.next ∙ d-is) ∙ rest) in
      record {
        many = 1;
        count = sym m-is;
        low = omega (arith, q.next);
        shown = subst (Shown 1 i) (sym one_set) (subst (λ (x : List (List Token)). Both (Both SymbolShows) x (r.set ∷ [])) (sym (r.row_sets 0)) (members r.shown no_members));
      })
      (λ y.
      let z : entries_from read_entry 5 W s d (n + 1) ≡ Done j m = sym (ap (λ (t : Bool). elim t [ true ↦ Done d (n + 1) | false ↦ entries_from read_entry 5 W s d (n + 1) ]) y) ∙ w in
      let g = reads_from s d (n + 1) j m k (omega (arith, q.next)) z h top rest in
      let r = entry_shown i a x k low u (omega (arith, q.next, g.low)) top in
      let more-sets : read_sets false (between l i k) ≡ r.set ∷ read_sets false (between l d k) =
      r.sets ∙ ap (λ (y : List Members). r.set ∷ y) (passed a 8 k (omega (arith, q.next, g.low)) (omega (arith, q.next, g.low)) (omega arith) (omega arith) (λ z. omega arith) (λ z. omega arith)
      (q.comma (λ z. eqb-false more 0 y z)) ∙ ap (λ (r : ℕ). read_sets false (between l r k)) (sym q.next)) in
      let rows : S.read_sets (suc g.many) (drop (o + i) E) ≡ r.row_set ∷ S.read_sets g.many (drop (o + d) E) = r.row_sets g.many ∙ ap (λ (x : ℕ). r.row_set ∷ S.read_sets g.many (drop (o + x) E)) (sym q.next) in
      record {
        many = suc g.many;
        count = omega (arith, g.count);
        low = omega (arith, q.next, g.low);
        shown = subst (Shown (suc g.many) i) (sym more-sets)
            (subst (λ (x : List (List Token)). Both (Both SymbolShows) x (r.set ∷ read_sets false (between l d k))) (sym rows) (members r.shown g.shown));
      })

  single_count : (i j n : ℕ) → read_entry W i ≡ Done j n → n ≡ 1
  unfolding read_entry one unexpected
  single_count i j n e =
      by_test_lem (eqb (peek W i).kind 6)
      (λ y. then_done (entries (one is_symbol) 7 W (i + 1) 0) (λ j _. Done j 1) j n (rw y at e) λ a x u v. sym (done_same v).1)
      (λ x. by_test_lem (is_symbol (peek W i)) (λ y. let z : Done (i + 1) 1 ≡ Done j n = rw (x, y) at e in sym (done_same z).1) (λ y. failed_done _ _ j n (rw (x, y) at e)))

  -- one entry, or several in parentheses
  pub reads_shown : (w j n k : ℕ) → 4 ≤ w → tuple read_entry W w ≡ Done j n → j ≤ k → k ≤ suc b → w < k → read_sets false (between l j k) ≡ []
      → Both (Both SymbolShows) (S.read_sets n (drop (first_entry E (o + w)) E)) (read_sets false (between l w k))
  unfolding tuple entries S.read_sets
  reads_shown w j n k low e h top inner rest =
      by_test_lem (eqb (peek W w).kind 4)
      (λ y.
      let g = reads_from (suc (length W)) (w + 1) 0 j n k (omega arith) (rw y at e) h top rest in
      let z : o + w + 1 ≡ o + (w + 1) = omega arith in
      let at_first : first_entry E (o + w) ≡ o + (w + 1) = first_entry_lem E o b l row w low (omega arith) true y ∙ z in
      let n-is : g.many ≡ n = omega (arith, g.count) in
      let sets : read_sets false (between l (w + 1) k) ≡ read_sets false (between l w k) =
      sym (passed w 4 k (omega arith) inner (omega arith) (omega arith) (λ z. omega arith) (λ z. omega arith) y) in
      subst (λ (m : ℕ). Both (Both SymbolShows) (S.read_sets m (drop (first_entry E (o + w)) E)) (read_sets false (between l w k))) n-is
      (subst (λ (r : ℕ). Both (Both SymbolShows) (S.read_sets g.many (drop r E)) (read_sets false (between l w k))) (sym at_first)
      (subst (Shown g.many (w + 1)) sets g.shown)))
      (λ x.
      let u : read_entry W w ≡ Done j n = rw x at e in
      let r = entry_shown w j n k low u h top in
      let at_first : first_entry E (o + w) ≡ o + w = first_entry_lem E o b l row w low (omega arith) false x in
      let one_set : read_sets false (between l w k) ≡ r.set ∷ [] = r.sets ∙ ap (λ (y : List Members). r.set ∷ y) rest in
      subst (λ (m : ℕ). Both (Both SymbolShows) (S.read_sets m (drop (first_entry E (o + w)) E)) (read_sets false (between l w k))) (sym (single_count w j n u))
      (subst (λ (q : ℕ). Both (Both SymbolShows) (S.read_sets 1 (drop q E)) (read_sets false (between l w k))) (sym at_first)
      (subst (Shown 1 w) (sym one_set) (subst (λ (x : List (List Token)). Both (Both SymbolShows) x (r.set ∷ [])) (sym (r.row_sets 0)) (members r.shown no_members)))))
