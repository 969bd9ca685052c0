-- The tokens of one line in the row: which of them are the text's, that its line feed ends it, and that a comment stands only
-- before the line feed.
use mathlib.Core.Path.{◌≡◌, refl, sym, ap, subst, ◌∙◌}
use mathlib.Core.Bool.{Bool, true, false, cond}
use mathlib.Core.List.{List, [], ◌∷◌, ◌++◌, map}
use Rattle.std.specs.Prelude.{Option, None, Some, option_to_list}
use Prim.Native.Nat.{ℕ, zero, suc, ◌+◌, ◌-◌, ◌≤◌, ◌<◌, ◌^◌}
use native.Mathlib.Omega.{arith}
use native.Mathlib.Nat.{le_of_suc-le-suc}
use borrow.Author.Tests.{eq-eqb, ne_eqb, eqb-true, eqb-false, ltb-true, ltb-false}
use lib.Dec.{eqb, ltb}
use lib.ListN.{length, take, drop, set, length-map}
use lib.Seq.{get_or-take, get_or-drop, get_or-set_other, drop-cons, length-take-le}
use Rattle.diag.proofs.Cases.{by_test_lem}
use Rattle.diag.specs.declared.Span.{Span as Place}
use Rattle.lexer.specs.Tokens.{TokenKind, newline, Token as Lexed}
use Rattle.lexer.specs.Words.{kind_number}
use Rattle.lexer.proofs.Placed.{Placed, All, all-at}
use Rattle.tokens.specs.declared.Token.{Token}
use Rattle.parser.specs.declared.Parts.{Parts}
use Rattle.parser.specs.declared.ItemKind.{ItemKind}
use Rattle.parser.specs.declared.ItemKind.TheVariants.{Machine, Kind, Input, Output, Tapes, States, InputAlphabet, TapeAlphabet, Blank, Start, Final, Transition}
use Rattle.parser.specs.declared.Item.{Item as Found}
use Rattle.parser.specs.Row.{peek, ended}
use Rattle.parser.specs.Lines.{Read, line, line_length, newline_at}
use Rattle.parser.specs.Meaning.{token_of, nothing, at, Sound, Closed, AllLexed, comment_of, own_comment}
use Rattle.parser.proofs.ItemLines.{goes_kind, feed_kind}
use Rattle.language.specs.Machine.{Located}
use Rattle.language.specs.Lines.{Ending, line_feed, goes_by, remark, ending_of}
use Rattle.language.specs.Assembly as A
use Rattle.language.specs.Layout as L
use Rattle.assembler.specs.Entered.{item_number, item_entry, counts_of, parts_of, entered_from}
use Rattle.assembler.proofs.NamesMean.{AllFree}
use Rattle.assembler.proofs.EntriesMean as M
use Rattle.assembler.proofs.EntriesMean.{Tokens, sound_all, peek-map, free_before, feed_there, end_is}
use Rattle.sheet.specs.Comments.{text_of, text_words, between}
use Rattle.sheet.specs.Rules.{own_place}
use Rattle.sheet.proofs.CommentLaws.{comments-one, comments_no, between_none, between-on}
use Rattle.sheet_theorems.proofs.TokensShow.{comment_shown}
use Rattle.sheet_theorems.proofs.BodyShown.{between_join}
use Rattle.sheet_theorems.proofs.ReadsShown.{both_values}
use Rattle.sheet_theorems.proofs.ItemTaken.{item_begins, item-taken, taken_ends, taken_high}

-- ---- tokens of a text
-- no line feed before the first
free_at : (m : Tokens) (r : ℕ) → AllFree m → r < length m → eqb (token_of (at m r)).kind 13 ≡ false
free_at [] r f h = absurd (omega arith)
free_at (t ∷ m) zero f h = f.0
free_at (t ∷ m) (suc r) f h = free_at m r f.1 (le_of_suc-le-suc h)

-- a line feed follows each comment
comment-next : (m : Tokens) (r : ℕ) → AllLexed m → r < length m → eqb (token_of (at m r)).kind 12 ≡ true → eqb (token_of (at m (suc r))).kind 13 ≡ true
unfolding token_of kind_number
comment-next [] r a h e = absurd (omega arith)
comment-next (t ∷ m) (suc r) a h e = comment-next m r a.1 (le_of_suc-le-suc h) e
comment-next (t ∷ m) zero a h e = go (ending_of t.kind) refl m a.0.closed
  where
    fed : (k : TokenKind) → k ≡ newline → eqb (kind_number k) 13 ≡ true
    fed k q = ap (λ (k : TokenKind). eqb (kind_number k) 13) q

    go : (x : Ending) → ending_of t.kind ≡ x → (m : Tokens) → Closed (ending_of t.kind) m → eqb (token_of (at (t ∷ m) 1)).kind 13 ≡ true
    go line_feed q m c = both_values (eqb (kind_number t.kind) 12) e (ap (λ (k : TokenKind). eqb (kind_number k) 12) (feed_kind t.kind q))
    go goes_by q m c = both_values (eqb (kind_number t.kind) 12) e (goes_kind t.kind q).0
    go (remark s) q m c = last m (subst (λ (x : Ending). Closed x m) q c)
      where
        last : (m : Tokens) → Closed (remark s) m → eqb (token_of (at (t ∷ m) 1)).kind 13 ≡ true
        last [] c = absurd c
        last (u ∷ m) c = fed u.kind (feed_kind u.kind c)

-- no comment between two indices
pub between_no : (ts : List Token) (n a : ℕ) → ((r : ℕ) → a ≤ r → r < a + n → eqb (peek ts r).kind 12 ≡ false) → between ts a (a + n) ≡ []
between_no ts zero a f = between_none ts a (a + 0) (omega arith)
between_no ts (suc n) a f =
    let z : a + suc n ≡ a + 1 + n = omega arith in
    between-on ts a (a + suc n) (omega arith)
    ∙ ap (λ (l : List Token). l ++ between ts (a + 1) (a + suc n)) (comments_no (peek ts a) (λ q. eqb-false (peek ts a).kind 12 (f a (omega arith) (omega arith)) q))
    ∙ ap (between ts (a + 1)) z ∙ between_no ts n (a + 1) (λ r h g. f r (omega arith) (omega arith))

-- a stretch of the row that is the text's
pub stretch : (E : List Token) (l : Tokens) (i n a : ℕ) → ((r : ℕ) → a ≤ r → r < a + n → peek E (i + r) ≡ token_of (at l r)) → i + a + n ≤ length E → a + n ≤ length l
    → take n (drop (i + a) E) ≡ map token_of (take n (drop a l))
stretch E l i zero a f h g = refl
stretch E l i (suc n) a f h g =
    let z : i + (a + 1) ≡ suc (i + a) = omega arith in
    let y : a + 1 ≡ suc a = omega arith in
    ap (take (suc n)) (drop-cons E (i + a) ended (omega arith))
    ∙ ap (λ (t : Token). t ∷ take n (drop (suc (i + a)) E)) (f a (omega arith) (omega arith))
    ∙ ap (λ (k : ℕ). token_of (at l a) ∷ take n (drop k E)) (sym z)
    ∙ ap (λ (x : List Token). token_of (at l a) ∷ x) (stretch E l i n (a + 1) (λ r p q. f r (omega arith) (omega arith)) (omega arith) (omega arith))
    ∙ ap (λ (k : ℕ). token_of (at l a) ∷ map token_of (take n (drop k l))) y
    ∙ sym (ap (λ (x : Tokens). map token_of (take (suc n) x)) (drop-cons l a nothing (omega arith)))

-- whether an item is a rule
pub by_rule : {X : Type 0} (k : ItemKind) → (k ≡ Transition → X) → ((k ≡ Transition → ⊥) → (item_number k ≡ 11 → ⊥) → X) → X
unfolding item_number
by_rule Transition f g = f refl
by_rule Machine f g = g (λ e. absurd (let z : ◌≡◌ {A = ℕ} 0 1 = cc in omega arith)) (λ e. omega arith)
by_rule Kind f g = g (λ e. absurd (let z : ◌≡◌ {A = ℕ} 0 1 = cc in omega arith)) (λ e. omega arith)
by_rule Input f g = g (λ e. absurd (let z : ◌≡◌ {A = ℕ} 0 1 = cc in omega arith)) (λ e. omega arith)
by_rule Output f g = g (λ e. absurd (let z : ◌≡◌ {A = ℕ} 0 1 = cc in omega arith)) (λ e. omega arith)
by_rule Tapes f g = g (λ e. absurd (let z : ◌≡◌ {A = ℕ} 0 1 = cc in omega arith)) (λ e. omega arith)
by_rule States f g = g (λ e. absurd (let z : ◌≡◌ {A = ℕ} 0 1 = cc in omega arith)) (λ e. omega arith)
by_rule InputAlphabet f g = g (λ e. absurd (let z : ◌≡◌ {A = ℕ} 0 1 = cc in omega arith)) (λ e. omega arith)
by_rule TapeAlphabet f g = g (λ e. absurd (let z : ◌≡◌ {A = ℕ} 0 1 = cc in omega arith)) (λ e. omega arith)
by_rule Blank f g = g (λ e. absurd (let z : ◌≡◌ {A = ℕ} 0 1 = cc in omega arith)) (λ e. omega arith)
by_rule Start f g = g (λ e. absurd (let z : ◌≡◌ {A = ℕ} 0 1 = cc in omega arith)) (λ e. omega arith)
by_rule Final f g = g (λ e. absurd (let z : ◌≡◌ {A = ℕ} 0 1 = cc in omega arith)) (λ e. omega arith)

-- ---- one line: that of the tokens t ∷ l' at the index i of the row E
module _ (text : List ℕ) (E : List Token) (i : ℕ) (t : Lexed Place) (l' : Tokens) (lexed : AllLexed (t ∷ l')) (placed : All (Placed text) (t ∷ l'))
    (row : drop i E ≡ entered_from [] i (map token_of (t ∷ l'))) where
  abbrev pub l : Tokens
  l = t ∷ l'

  abbrev pub W : List Token
  W = map token_of (t ∷ l')

  abbrev pub b : ℕ
  b = M.b text E i t l' lexed placed row

  pub in_line : suc b ≤ length l
  in_line = M.short text E i t l' lexed placed row

  pub sound_at : (r : ℕ) → r ≤ b → Sound (at l r)
  sound_at r h = all-at Sound l r nothing (sound_all l (M.sound text E i t l' lexed placed row)) (omega (arith, in_line))

  pub placed_at : (r : ℕ) → r ≤ b → Placed text (at l r)
  placed_at r h = all-at (Placed text) l r nothing placed (omega (arith, in_line))

  ends_at : line_length W ≡ b
  ends_at = sym (end_is W) ∙ sym (M.ends text E i t l' lexed placed row)

  pub feed_at : eqb (token_of (at l b)).kind 13 ≡ true
  feed_at =
      ap (λ (w : Token). eqb w.kind 13) (sym (peek-map l b)) ∙ ap (λ (m : ℕ). eqb (peek W m).kind 13) (sym ends_at)
      ∙ feed_there W (omega (arith, in_line, ends_at, length-map l token_of))

  pub free_until : (r : ℕ) → r < b → eqb (token_of (at l r)).kind 13 ≡ false
  free_until r h =
      let m : ℕ = line_length W in
      let size : length (take m l) ≡ m = length-take-le m l (omega (arith, in_line, ends_at)) in
      ap (λ (u : Lexed Place). eqb (token_of u).kind 13) (sym (get_or-take m l r nothing (omega (arith, ends_at)))) ∙ free_at (take m l) r (free_before l) (omega (arith, ends_at, size))

  -- ---- an item
  module _ (x : Found) (read : line W 0 ≡ Read x) where
    pub b_low : 0 < b
    b_low =
        by_test_lem (eqb b 0)
        (λ y. both_values (eqb (peek W 0).kind 13) (ap (λ (w : Token). eqb w.kind 13) (peek-map l 0) ∙ ap (λ (r : ℕ). eqb (token_of (at l r)).kind 13) (sym (eqb-true b 0 y)) ∙ feed_at) (item_begins W x read))
        (λ n. let z = eqb-false b 0 n in omega arith)

    pub value_is : (peek E i).value ≡ i + b
    unfolding item_entry
    value_is = ap (λ (w : Token). w.value) (M.entry_is text E i t l' lexed placed row x read) ∙ ap (λ (n : ℕ). i + n) (sym (M.b_is text E i t l' lexed placed row x read))

    pub plain_at : (item_number x.kind ≡ 11 → ⊥) → (r : ℕ) → 0 < r → r ≤ b → peek E (i + r) ≡ token_of (at l r)
    plain_at plain zero h g = absurd (omega arith)
    plain_at plain (suc r) h g = M.row_at text E i t l' lexed placed row (suc r) g ∙ ap (λ (y : List Token). peek y (suc r)) (M.plain-L text E i t l' lexed placed row x read plain) ∙ peek-map l' r

    module _ (rule : x.kind ≡ Transition) where
      pub rule-counts : peek E (i + 1) ≡ counts_of x.parts
      rule-counts = let z : i + 1 ≡ suc i + 0 = omega arith in ap (peek E) z ∙ sym (get_or-drop (suc i) E 0 ended) ∙ M.counts_at_lem text E i t l' lexed placed row x read rule

      pub rule-parts : peek E (i + 3) ≡ parts_of i x.parts
      rule-parts = let z : i + 3 ≡ suc i + 2 = omega arith in ap (peek E) z ∙ sym (get_or-drop (suc i) E 2 ended) ∙ M.parts_at text E i t l' lexed placed row x read rule

      pub rule-state : peek E (i + 2) ≡ token_of (at l 2)
      rule-state =
          let base : List Token = item_entry i x ∷ map token_of l' in
          let q : Parts = x.parts in
          M.row_at text E i t l' lexed placed row 2 (omega (arith, M.long text E i t l' lexed placed row x read rule))
          ∙ ap (λ (y : List Token). peek y 2) (M.rule-L text E i t l' lexed placed row x read rule)
          ∙ get_or-set_other (set base 1 (counts_of q)) 3 2 (parts_of i q) ended (λ z. omega arith) ∙ get_or-set_other base 1 2 (counts_of q) ended (λ z. omega arith) ∙ peek-map l' 1

      pub rule_at_lem : (r : ℕ) → 4 ≤ r → r ≤ b → peek E (i + r) ≡ token_of (at l r)
      rule_at_lem r h g =
          let z : r ≡ 4 + (r - 4) = omega arith in
          ap (λ (k : ℕ). peek E (i + k)) z ∙ M.beyond text E i t l' lexed placed row x read rule (r - 4) (omega arith) ∙ ap (peek W) (sym z) ∙ peek-map l r

      rule_quiet : (n : ℕ) → 11 < n → (r : ℕ) → 0 < r → r ≤ b → eqb (token_of (at l r)).kind n ≡ false → eqb (peek E (i + r)).kind n ≡ false
      rule_quiet n low zero h g e = absurd (omega arith)
      rule_quiet n low (suc zero) h g e = ap (λ (w : Token). eqb w.kind n) rule-counts ∙ ne_eqb 4 n (omega arith)
      rule_quiet n low (suc (suc zero)) h g e = ap (λ (w : Token). eqb w.kind n) rule-state ∙ e
      rule_quiet n low (suc (suc (suc zero))) h g e = ap (λ (w : Token). eqb w.kind n) rule-parts ∙ ne_eqb 8 n (omega arith)
      rule_quiet n low (suc (suc (suc (suc r)))) h g e = ap (λ (w : Token). eqb w.kind n) (rule_at_lem (suc (suc (suc (suc r)))) (omega arith) g) ∙ e

    -- what holds of the tokens of a declaration and of a rule alike
    record Kept : Type 0 where
      high : 1 < x.end
      last : eqb (peek W (x.end - 1)).kind 12 ≡ false
      quiet : (n : ℕ) → 11 < n → (r : ℕ) → 0 < r → r ≤ b → eqb (token_of (at l r)).kind n ≡ false → eqb (peek E (i + r)).kind n ≡ false
      same : (r : ℕ) → x.end ≤ r → r ≤ b → peek E (i + r) ≡ token_of (at l r)

    kept : Kept
    kept =
        by_rule x.kind
        (λ rule.
        let p = M.parts_in text E i t l' lexed placed row x read rule in
        let z : x.end - 1 ≡ p.lists.dir_stop = omega (arith, p.lists.end) in
        let five : (peek W (x.end - 1)).kind ≡ 5 = ap (λ (k : ℕ). (peek W k).kind) z ∙ eqb-true (peek W p.lists.dir_stop).kind 5 p.lists.last in
        record {
          high = omega (arith, p.long);
          last = ne_eqb (peek W (x.end - 1)).kind 12 (omega arith);
          quiet = rule_quiet rule;
          same = λ r h g. rule_at_lem rule r (omega (arith, p.long)) g;
        })
        (λ no plain.
        let k = item-taken W x read x.kind refl in
        let high = taken_high W x x.kind no k in
        record {
          high = high;
          last = taken_ends W x x.kind no k;
          quiet = λ n low r h g e. ap (λ (w : Token). eqb w.kind n) (plain_at plain r h g) ∙ e;
          same = λ r h g. plain_at plain r (omega arith) g;
        })

    pub end_high : 1 < x.end
    end_high = kept.high

    end_low : x.end ≤ b
    end_low = omega (arith, M.b_is text E i t l' lexed placed row x read, (M.inside text E i t l' lexed placed row x read).behind)

    pub item_free : (j : ℕ) → i < j → j < (peek E i).value → eqb (peek E j).kind 13 ≡ false
    item_free j h g =
        let z : i + (j - i) ≡ j = omega arith in
        ap (λ (k : ℕ). eqb (peek E k).kind 13) (sym z)
        ∙ kept.quiet 13 (omega arith) (j - i) (omega arith) (omega (arith, value_is)) (free_until (j - i) (omega (arith, value_is)))

    pub item_feed : (peek E (peek E i).value).kind ≡ 13
    item_feed =
        ap (λ (k : ℕ). (peek E k).kind) value_is ∙ ap (λ (w : Token). w.kind) (kept.same b end_low (omega arith)) ∙ eqb-true (token_of (at l b)).kind 13 feed_at

    -- ---- its comment
    no_comment : (r : ℕ) → 0 < r → r < x.end → eqb (peek E (i + r)).kind 12 ≡ false
    no_comment r h g =
        kept.quiet 12 (omega arith) r h (omega (arith, end_low))
        (by_test_lem (eqb (token_of (at l r)).kind 12)
        (λ y.
        let fed : eqb (token_of (at l (suc r))).kind 13 ≡ true = comment-next l r lexed (omega (arith, in_line, end_low)) y in
        by_test_lem (ltb (suc r) b)
        (λ q. both_values (eqb (token_of (at l (suc r))).kind 13) fed (free_until (suc r) (ltb-true (suc r) b q)))
        (λ q.
        let z : x.end - 1 ≡ r = (let w = ltb-false (suc r) b q in omega (arith, end_low)) in
        both_values (eqb (token_of (at l r)).kind 12) y (ap (λ (w : Token). eqb w.kind 12) (sym (peek-map l r)) ∙ ap (λ (k : ℕ). eqb (peek W k).kind 12) (sym z) ∙ kept.last)))
        (λ n. n))

    none_before : between E (i + 1) (i + x.end) ≡ []
    none_before =
        let z : i + x.end ≡ i + 1 + (x.end - 1) = omega (arith, end_high) in
        ap (between E (i + 1)) z ∙ between_no E (x.end - 1) (i + 1) λ r h g.
        let y : i + (r - i) ≡ r = omega arith in
        ap (λ (k : ℕ). eqb (peek E k).kind 12) (sym y) ∙ no_comment (r - i) (omega arith) (omega arith)

    abbrev own : Option (Located Place (List ℕ))
    own = own_comment l x.end x.newline

    pub record Noted : Type 0 where
      pub comment : L.flat text_words (between E (i + 1) (peek E i).value) ≡ L.flat L.located_words (option_to_list own)
      pub place : L.place_words (own_place E i) ≡ L.place_words (L.place_or_none own)

    own_by : (e : ℕ) (y : Bool) → eqb (peek E e).kind 12 ≡ y → (peek E i).value ≡ e + 1 → own_place E i ≡ cond y (text_of (peek E e)) L.no_place
    unfolding own_place
    own_by e y h v =
        let z : e + 1 - 1 ≡ e = omega arith in
        ap (λ (n : ℕ). cond (eqb n 0) L.no_place (cond (eqb (peek E (n - 1)).kind 12) (text_of (peek E (n - 1))) L.no_place)) v
        ∙ rw (ne_eqb (e + 1) 0 (λ q. omega arith), z, h)

    pub noted : length text < 2 ^ 32 → Noted
    unfolding own_comment newline_at L.flat L.place_or_none
    noted small =
        by_test_lem (eqb (peek W x.end).kind 12)
        (λ y.
        let end : x.newline ≡ x.end + 1 = (M.inside text E i t l' lexed placed row x read).ends ∙ rw (newline_at, y) in
        let b_end : b ≡ x.end + 1 = M.b_is text E i t l' lexed placed row x read ∙ end in
        let own_is : own ≡ Some (comment_of (at l x.end)) = rw (own_comment, ne_eqb x.newline x.end (omega arith)) in
        let here : peek E (i + x.end) ≡ token_of (at l x.end) = kept.same x.end (omega arith) (omega arith) in
        let noted-kind : eqb (token_of (at l x.end)).kind 12 ≡ true = ap (λ (w : Token). eqb w.kind 12) (sym (peek-map l x.end)) ∙ y in
        let kind : (peek E (i + x.end)).kind ≡ 12 = ap (λ (w : Token). w.kind) here ∙ eqb-true (token_of (at l x.end)).kind 12 noted-kind in
        let words : text_words (peek E (i + x.end)) ≡ L.located_words (comment_of (at l x.end)) =
        ap text_words here ∙ comment_shown text small (at l x.end) (placed_at x.end (omega arith)) noted-kind in
        let value : (peek E i).value ≡ i + x.end + 1 = value_is ∙ omega arith in
        let one : between E (i + 1) (peek E i).value ≡ peek E (i + x.end) ∷ [] =
        ap (between E (i + 1)) value ∙ between_join E (i + 1) (i + x.end) (i + x.end + 1) (omega (arith, end_high)) (omega arith)
        ∙ ap (λ (k : List Token). k ++ between E (i + x.end) (i + x.end + 1)) none_before ∙ between-on E (i + x.end) (i + x.end + 1) (omega arith)
        ∙ ap (λ (k : List Token). k ++ between E (i + x.end + 1) (i + x.end + 1)) (comments-one (peek E (i + x.end)) kind)
        ∙ ap (λ (k : List Token). peek E (i + x.end) ∷ k) (between_none E (i + x.end + 1) (i + x.end + 1) (omega arith)) in
        record {
          comment = ap (L.flat text_words) one ∙ ap (λ (k : List ℕ). k ++ []) words ∙ sym (ap (λ (o : Option (Located Place (List ℕ))). L.flat L.located_words (option_to_list o)) own_is);
          place = ap L.place_words (own_by (i + x.end) true (eq-eqb (peek E (i + x.end)).kind 12 kind) value) ∙ words ∙ sym (ap (λ (o : Option (Located Place (List ℕ))). L.place_words (L.place_or_none o)) own_is);
        })
        (λ n.
        let end : x.newline ≡ x.end = (M.inside text E i t l' lexed placed row x read).ends ∙ rw (newline_at, n) in
        let b_end : b ≡ x.end = M.b_is text E i t l' lexed placed row x read ∙ end in
        let own_is : own ≡ None = rw (own_comment, eq-eqb x.newline x.end end) in
        let value : (peek E i).value ≡ i + (x.end - 1) + 1 = value_is ∙ omega (arith, end_high) in
        record {
          comment =
              ap (λ (k : ℕ). L.flat text_words (between E (i + 1) k)) (value_is ∙ ap (λ (k : ℕ). i + k) b_end) ∙ ap (L.flat text_words) none_before
              ∙ sym (ap (λ (o : Option (Located Place (List ℕ))). L.flat L.located_words (option_to_list o)) own_is);
          place = ap L.place_words (own_by (i + (x.end - 1)) false (no_comment (x.end - 1) (omega (arith, end_high)) (omega (arith, end_high))) value)
              ∙ sym (ap (λ (o : Option (Located Place (List ℕ))). L.place_words (L.place_or_none o)) own_is);
        })
