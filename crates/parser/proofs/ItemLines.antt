-- A line over the row means the language's line.
use Rattle.std.specs.Prelude.{Err, Option as Optional, Option, None, Some}
use mathlib.Core.Path.{◌≡◌, refl, sym, ap, subst, ◌∙◌}
use Prim.Native.Nat.{ℕ, ◌+◌, ◌-◌}
use native.Mathlib.Omega.{arith}
use mathlib.Core.Bool.{true, false}
use mathlib.Core.Logic.{inl, inr}
use mathlib.Core.List.{List, [], ◌∷◌, ◌++◌, append-nil, append_assoc}
use lib.Dec.{eqb}
use lib.ListN.{length, drop, length-append}
use lib.Seq.{drop-drop}
use borrow.Author.Tests.{eq-eqb, ne_eqb}
use Rattle.lexer.specs.Tokens.{TokenKind, word, number, quoted, str, sign, comment, newline, unterminated_string, unterminated_quote, Span, Token}
use Rattle.lexer.specs.Words.{sign_number, kind_number}
use Rattle.machine.specs.declared.Kind.{Kind}
use Rattle.machine.specs.declared.Kind.TheVariants.{Transducer}
use Rattle.language.specs.Machine.{Located}
use Rattle.language.specs.Parser.{Result, ok, fail, Parser, unexpected, is_sign, taken, give, ◌>>=◌}
use Rattle.language.specs.Parser.{then as bind, one as token, expect, set as braced}
use Rattle.language.specs.Lines.{RawSymbol, raw_blank, RawTransition, Text, Item, machine_item, input_item, kind_item, output_item, tapes_item, states_item, final_item, input_alphabet_item, tape_alphabet_item, blank_item, start_item, transition_item, Line, item_line, error_line, state_in, symbol_in, number_in, word_in, kinds, outputs, Keyword as Name, machine_word, kind_word, input_word, output_word, tapes_word, states_word, sigma_word, gamma_word, blank_word, start_word, final_word, delta_word, keywords, string, numeral, choice, state, symbol, output as decoder, transition as ruled, item_of as item_by, item as item_at, Ending, line_feed, goes_by, remark, ending_of, last_place, finished, empty_line, line_from, covering}
use Rattle.parser.specs.Row.{peek}
use Rattle.parser.specs.Views.{is_kind, is_choice, is_state, is_symbol, keyword_of, lead_of}
use Rattle.parser.specs.Lines.{Parsed, Done, Answer, one, set, output, no_parts, then, plain, value, transition, spanning, newline_at, finish, value_at, item_of, item_from, item, is_comment, line}
use Rattle.parser.specs.Meaning.{token_of, at, between, seen, text_of, decoder_at, item_means, remark_of, own_comment, line_means, CountedAs, LineCounted, Closed}
use Rattle.tokens.specs.declared.Token.{Token as Words}
use Rattle.parser.specs.declared.Parts.{Parts}
use Rattle.parser.specs.declared.ItemKind.{ItemKind}
use Rattle.parser.specs.declared.ItemKind.TheVariants.{Machine, Kind as KindOf, Input, Output, Tapes, States, InputAlphabet, TapeAlphabet, Blank, Start, Final, Transition}
use Rattle.parser.specs.declared.Item.{Item as Found}
use Rattle.parser.proofs.Tables.{true_false}
use Rattle.parser.proofs.Views.{is_some, sign_rule, unnamed_number, names-eq, code_view}
use Rattle.parser.proofs.Keywords.{kind_of, start_of, keyword_view}
use Rattle.parser.proofs.Simulates.{Stops, Fits, One, once, At, row, at_first, at_stop, at-behind, at-between, at_token, sign_fits}
use Rattle.parser.proofs.Values.{Texts, Says, state_fits, symbol_fits, number_fits, kind_fits, string_fits, states_fits, symbols_fits}
use Rattle.parser.proofs.Transitions.{Gives, Ruled, located-at, transition_gives}
use Rattle.parser.proofs.Outputs.{decoder_fits}

-- a token that ends no line's tokens is no comment and no line feed
pub goes_kind : (k : TokenKind) → ending_of k ≡ goes_by → (eqb (kind_number k) 12 ≡ false) × (eqb (kind_number k) 13 ≡ false)
unfolding ending_of kind_number
goes_kind (word w) e = (refl, refl)
goes_kind (number w) e = (refl, refl)
goes_kind (quoted c) e = (refl, refl)
goes_kind (str s) e = (refl, refl)
goes_kind (sign c) e = (
  sign_rule (λ d. eqb (sign_number d) 12) (λ d. false) refl refl refl refl refl refl refl (λ d u. rw (unnamed_number d u)) c,
  sign_rule (λ d. eqb (sign_number d) 13) (λ d. false) refl refl refl refl refl refl refl (λ d u. rw (unnamed_number d u)) c,
)
goes_kind (comment s) e = absurd (let z : ◌≡◌ {A = ℕ} 0 1 = cc in omega arith)
goes_kind newline e = absurd (let z : ◌≡◌ {A = ℕ} 0 1 = cc in omega arith)
goes_kind unterminated_string e = (refl, refl)
goes_kind unterminated_quote e = (refl, refl)

pub feed_kind : (k : TokenKind) → ending_of k ≡ line_feed → k ≡ newline
unfolding ending_of
feed_kind newline e = refl
feed_kind (word w) e = absurd (let z : ◌≡◌ {A = ℕ} 0 1 = cc in omega arith)
feed_kind (number w) e = absurd (let z : ◌≡◌ {A = ℕ} 0 1 = cc in omega arith)
feed_kind (quoted c) e = absurd (let z : ◌≡◌ {A = ℕ} 0 1 = cc in omega arith)
feed_kind (str s) e = absurd (let z : ◌≡◌ {A = ℕ} 0 1 = cc in omega arith)
feed_kind (sign c) e = absurd (let z : ◌≡◌ {A = ℕ} 0 1 = cc in omega arith)
feed_kind (comment s) e = absurd (let z : ◌≡◌ {A = ℕ} 0 1 = cc in omega arith)
feed_kind unterminated_string e = absurd (let z : ◌≡◌ {A = ℕ} 0 1 = cc in omega arith)
feed_kind unterminated_quote e = absurd (let z : ◌≡◌ {A = ℕ} 0 1 = cc in omega arith)

-- parsers in a row
bind_bind : {A B C : Type 0} (x : Result Span A) (f : A → Parser Span B) (g : B → Parser Span C) → bind (bind x f) g ≡ bind x (λ a r. bind (f a r) g)
unfolding bind
bind_bind (ok a r) f g = refl
bind_bind (fail c p) f g = refl

-- a token that a table of words takes is a word
word_number : {A : Type 0} (l : List (List ℕ × A)) (k : TokenKind) (a : A) → word_in l k ≡ Some a → kind_number k ≡ 0
unfolding word_in kind_number
word_number l (word w) a e = refl
word_number l (number w) a e = true_false (sym (ap is_some e))
word_number l (quoted c) a e = true_false (sym (ap is_some e))
word_number l (str s) a e = true_false (sym (ap is_some e))
word_number l (sign c) a e = true_false (sym (ap is_some e))
word_number l (comment s) a e = true_false (sym (ap is_some e))
word_number l newline a e = true_false (sym (ap is_some e))
word_number l unterminated_string a e = true_false (sym (ap is_some e))
word_number l unterminated_quote a e = true_false (sym (ap is_some e))

-- the comment that ends a line's tokens
abbrev pub note_of : Ending → Span → Option (Located Span (List ℕ))
note_of line_feed p = None
note_of goes_by p = None
note_of (remark s) p = Some (record { value = s; place = p })

-- a line over the row means a line of the language
pub record Means (ts : List (Token Span)) (x : Answer) (y : Line Span) : Type 0 where
  pub same : line_means ts x ≡ y
  pub counted : LineCounted ts x

module _ (ts : List (Token Span)) (junk : List Words) (z : Token Span) (more : List (Token Span)) (ends : Stops z.kind) (closed : Closed (ending_of z.kind) more) where
  abbrev ws : List Words
  ws = row ts junk z more

  abbrev Here : ℕ → List (Token Span) → Type 0
  Here = At ts junk z more

  abbrev note : Option (Located Span (List ℕ))
  note = note_of (ending_of z.kind) z.inner

  -- the last token of a row
  last_peek : (i : ℕ) (t : Token Span) (l : List (Token Span)) → Here i (t ∷ l) → (peek ws (i + length l)).end ≡ (last_place t.place l).end
  unfolding last_place token_of
  last_peek i t [] here = ap (λ (n : ℕ). (peek ws n).end) (omega arith) ∙ ap (λ (x : Words). x.end) (at_first ts junk z more i t [] here).1
  last_peek i t (u ∷ l) here =
      ap (λ (n : ℕ). (peek ws n).end) (omega arith) ∙ last_peek (i + 1) u l (at-behind ts junk z more i (t ∷ u ∷ l) (t ∷ []) (u ∷ l) here refl)

  -- behind a comment stands a line feed
  feed_peek : (s : List ℕ) (j : ℕ) → Here j [] → z.kind ≡ comment s → (peek ws (j + 1)).kind ≡ 13
  unfolding ending_of token_of kind_number
  feed_peek s j here e = go more refl (subst (λ (k : TokenKind). Closed (ending_of k) more) e closed)
    where
      go : (m : List (Token Span)) → more ≡ m → Closed (remark s) m → (peek ws (j + 1)).kind ≡ 13
      go [] q c = absurd c
      go (u ∷ m) q c =
          let d : drop (j + 1) ts ≡ u ∷ m = sym (drop-drop 1 j ts) ∙ ap (drop 1) here.here ∙ q in
          ap (λ (x : Words). x.kind) (at_token ts junk z more (j + 1) u m d).1 ∙ ap kind_number (feed_kind u.kind c)

  -- ---- the row t₀ ∷ l₀ from the index i₀ on
  module _ (i₀ : ℕ) (t₀ : Token Span) (l₀ : List (Token Span)) (row₀ : Here i₀ (t₀ ∷ l₀)) where
    abbrev whole : Span
    whole = covering t₀.place (last_place t₀.place l₀)

    row_span : (j : ℕ) → j ≡ i₀ + length (t₀ ∷ l₀) → spanning ws i₀ j ≡ whole
    unfolding token_of
    row_span j e =
        let a : (peek ws i₀).start ≡ t₀.place.start = ap (λ (x : Words). x.start) (at_first ts junk z more i₀ t₀ l₀ row₀).1 in
        let q : j - 1 ≡ i₀ + length l₀ = omega arith in
        let b : (peek ws (j - 1)).end ≡ (last_place t₀.place l₀).end = ap (λ (n : ℕ). (peek ws n).end) q ∙ last_peek i₀ t₀ l₀ row₀ in
        rw (a, b)

    -- an item up to the index j, with r left of the row
    finish-means : (k : ItemKind) (v j : ℕ) (q : Parts) (f r : List (Token Span)) (it : Item Span) → t₀ ∷ l₀ ≡ f ++ r → j ≡ i₀ + length f → it ≡ item_means ts k v j q
        → ((x : Found) → x.kind ≡ k → x.parts ≡ q → x.end ≡ j → CountedAs ts x.kind x) → Means ts (finish k ws i₀ v j q) (finished whole note (ok it r))
    unfolding finish finished newline_at line_means own_comment remark_of ending_of token_of kind_number
    finish-means k v j q f (t ∷ r) it e d m c =
        let at₁ : Here j (t ∷ r) = subst (λ (n : ℕ). Here n (t ∷ r)) (sym d) (at-behind ts junk z more i₀ (t₀ ∷ l₀) f (t ∷ r) row₀ e) in
        let p : peek ws j ≡ token_of t = (at_first ts junk z more j t r at₁).1 in
        let g = goes_kind t.kind at₁.goes.0 in
        let n : eqb (peek ws j).kind 12 ≡ false = ap (λ (x : Words). eqb x.kind 12) p ∙ g.0 in
        let h : eqb (peek ws j).kind 13 ≡ false = ap (λ (x : Words). eqb x.kind 13) p ∙ g.1 in
        rw (n, h) (record { same = rw p (ap (λ (c : ℕ). error_line c t.place) (code_view t.kind t.place t.inner)); counted = tt })
    finish-means k v j q f [] it e d m c = stopped ends
      where
        at₁ : Here j []
        at₁ = subst (λ (n : ℕ). Here n []) (sym d) (at-behind ts junk z more i₀ (t₀ ∷ l₀) f [] row₀ e)

        p : peek ws j ≡ token_of z
        p = (at_stop ts junk z more j at₁).1

        placed : spanning ws i₀ j ≡ whole
        placed = row_span j (d ∙ ap (λ (x : List (Token Span)). i₀ + length x) (sym (e ∙ append-nil f)))

        stopped : Stops z.kind → Means ts (finish k ws i₀ v j q) (item_line it whole note)
        stopped (inl a) =
            let n : eqb (peek ws j).kind 12 ≡ false = ap (λ (x : Words). eqb x.kind 12) p ∙ ap (λ (x : TokenKind). eqb (kind_number x) 12) a in
            let h : eqb (peek ws j).kind 13 ≡ true = ap (λ (x : Words). eqb x.kind 13) p ∙ ap (λ (x : TokenKind). eqb (kind_number x) 13) a in
            rw (n, h) (record {
              same = rw (placed, eq-eqb j j refl, ← m) (ap (λ (x : TokenKind). item_line it whole (note_of (ending_of x) z.inner)) (sym a));
              counted = c _ refl refl refl;
            })
        stopped (inr (s, a)) =
            let n : eqb (peek ws j).kind 12 ≡ true = ap (λ (x : Words). eqb x.kind 12) p ∙ ap (λ (x : TokenKind). eqb (kind_number x) 12) a in
            let h : eqb (peek ws (j + 1)).kind 13 ≡ true = ap (λ (x : ℕ). eqb x 13) (feed_peek s j at₁ a) in
            let b : eqb (j + 1) j ≡ false = ne_eqb (j + 1) j (λ x. omega arith) in
            rw (n, h) (record {
              same = rw (placed, b, (at_stop ts junk z more j at₁).0, ← m, a);
              counted = c _ refl refl refl;
            })

    -- one part of a line behind another
    line_on-means : {A : Type 0} (M : List (Token Span) → A → Type 0) (count : A → ℕ) (i : ℕ) (l : List (Token Span)) → Here i l → (x : Parsed ℕ) (y : Result Span A) → Fits i l M count x y
        → (k : ℕ → ℕ → Answer) (K : A → Parser Span (Item Span))
        → ((f r : List (Token Span)) (a : A) → l ≡ f ++ r → M f a → Here (i + length f) r → Means ts (k (i + length f) (count a)) (finished whole note (K a r)))
        → Means ts (then x k) (finished whole note (bind y K))
    unfolding then bind finished line_means
    line_on-means M count i l here (Err bad) (fail d q) h k K go = record { same = rw (h.0, h.1); counted = tt }
    line_on-means M count i l here (Err bad) (ok a r) h k K go = absurd h
    line_on-means M count i l here (Done j m) (fail d q) h k K go = absurd h
    line_on-means M count i l here (Done j m) (ok a r) (f, e, q, n, w) k K go =
        rw (n, q) (go f r a e w (at-behind ts junk z more i l f r here e))

    lines-plain : (x : Parsed ℕ) (F : ℕ → Parts → Answer) → then (plain x) F ≡ then x (λ j _. F j no_parts)
    unfolding then plain
    lines-plain (Done j n) F = refl
    lines-plain (Err bad) F = refl

    -- a declaration whose value is read by x over the row, from the index v on, behind the tokens g
    plain-means : {A : Type 0} (k : ItemKind) (M : List (Token Span) → A → Type 0) (count : A → ℕ) (v : ℕ) (g l : List (Token Span)) → Here v l → t₀ ∷ l₀ ≡ g ++ l → v ≡ i₀ + length g
        → (x : Parsed ℕ) (y : Result Span A) → Fits v l M count x y → (F : A → Item Span)
        → ((f r : List (Token Span)) (a : A) → l ≡ f ++ r → M f a → F a ≡ item_means ts k v (v + length f) no_parts) → ((x : Found) → x.kind ≡ k → CountedAs ts x.kind x)
        → Means ts (then (plain x) (λ j q. finish k ws i₀ v j q)) (finished whole note (bind y λ a. give (F a)))
    plain-means k M count v g l here e d x y fits F m c =
        subst (λ (u : Answer). Means ts u (finished whole note (bind y λ a. give (F a)))) (sym (lines-plain x (λ j q. finish k ws i₀ v j q)))
        (line_on-means M count v l here x y fits (λ j _. finish k ws i₀ v j no_parts) (λ a. give (F a)) λ f r a e₁ w at₁.
        finish-means k v (v + length f) no_parts (g ++ f) r (F a) (e ∙ ap (λ (x : List (Token Span)). g ++ x) e₁ ∙ sym (append_assoc g f r)) (omega (arith, length-append g f)) (m f r a e₁ w)
        (λ x p q s. c x p))

    -- what the whole range of a set says
    set-means : {A : Type 0} (view : TokenKind → Option A) (v : ℕ) (l f r : List (Token Span)) (a : List (Located Span A)) → Here v l → l ≡ f ++ r → Says ts junk z more ends view f a → a ≡ seen view (between ts v (v + length f))
    unfolding seen
    set-means {A} view v l f r a here e w =
        sym (ap (seen view) (at-between ts junk z more v l f r here e ∙ sym (append-nil f)) ∙ w [] ∙ append-nil a)

    text_means : (v : ℕ) (l f r : List (Token Span)) (a : Text Span) → Here v l → l ≡ f ++ r → Texts f a → a ≡ text_of (at ts v)
    text_means v l f r a here e o =
        let q : l ≡ o.taker ∷ r = e ∙ ap (λ (x : List (Token Span)). x ++ r) o.front in
        o.says ∙ ap text_of (sym (at_first ts junk z more v o.taker r (subst (Here v) q here)).0)

    here₁ : Here (i₀ + 1) l₀
    here₁ = at-behind ts junk z more i₀ (t₀ ∷ l₀) (t₀ ∷ []) l₀ row₀ refl

    -- a declaration by its value's parsers: behind the keyword, and behind `=`
    module _ {A : Type 0} (k : ItemKind) (M : List (Token Span) → A → Type 0) (count : A → ℕ) (p : ℕ → Parsed ℕ) (P : Parser Span A) (F : A → Item Span)
        (fits : (v : ℕ) (l : List (Token Span)) → Here v l → Fits v l M count (p v) (P l))
        (means : (v : ℕ) (l f r : List (Token Span)) (a : A) → Here v l → l ≡ f ++ r → M f a → F a ≡ item_means ts k v (v + length f) no_parts)
        (counts : (x : Found) → x.kind ≡ k → CountedAs ts x.kind x) where
      bare-means : Means ts (then (plain (p (i₀ + 1))) (λ j q. finish k ws i₀ (i₀ + 1) j q)) (finished whole note (bind (P l₀) λ a. give (F a)))
      bare-means =
          plain-means k M count (i₀ + 1) (t₀ ∷ []) l₀ here₁ refl refl (p (i₀ + 1)) (P l₀) (fits (i₀ + 1) l₀ here₁) F (λ f r a e w. means (i₀ + 1) l₀ f r a here₁ e w) counts

      equals-means : Means ts (then (one (is_kind 9) ws (i₀ + 1)) λ v _. then (plain (p v)) (λ j q. finish k ws i₀ v j q)) (finished whole note (bind (expect z.place 0x3D l₀) λ _ r. bind (P r) λ a. give (F a)))
      equals-means =
          line_on-means (One (is_sign 0x3D)) once (i₀ + 1) l₀ here₁ (one (is_kind 9) ws (i₀ + 1)) (expect z.place 0x3D l₀) (sign_fits ts junk z more ends 0x3D 9 names-eq (i₀ + 1) l₀ here₁)
          (λ v _. then (plain (p v)) (λ j q. finish k ws i₀ v j q)) (λ _ r. bind (P r) λ a. give (F a)) λ f₁ r₁ a₁ e₁ o₁ at₁.
          plain-means k M count (i₀ + 1 + length f₁) (t₀ ∷ f₁) r₁ at₁ (ap (λ (x : List (Token Span)). t₀ ∷ x) e₁) (omega arith) (p (i₀ + 1 + length f₁)) (P r₁)
          (fits (i₀ + 1 + length f₁) r₁ at₁) F (λ f r a e w. means (i₀ + 1 + length f₁) r₁ f r a at₁ e w) counts

    transition-means : kind_number t₀.kind ≡ 0 → Means ts (then (transition ws i₀) (λ j q. finish Transition ws i₀ i₀ j q)) (finished whole note (bind (ruled z.place l₀) λ r. give (transition_item r)))
    unfolding bind then finished line_means item_means
    transition-means w = go (transition ws i₀) (ruled z.place l₀) (transition_gives ts junk z more ends i₀ t₀ l₀ row₀ w)
      where
        go : (x : Parsed Parts) (y : Result Span (RawTransition Span)) → Gives (i₀ + 1) l₀ (Ruled ts) x y → Means ts (then x (λ j q. finish Transition ws i₀ i₀ j q)) (finished whole note (bind y λ r. give (transition_item r)))
        go (Err bad) (fail d q) h = record { same = rw (h.0, h.1); counted = tt }
        go (Err bad) (ok a r) h = absurd h
        go (Done j m) (fail d q) h = absurd h
        go (Done j q) (ok b r) (f, e, d, m) =
            finish-means Transition i₀ j q (t₀ ∷ f) r (transition_item b) (ap (λ (x : List (Token Span)). t₀ ∷ x) e) (omega arith) (ap transition_item m.same)
            (λ x p₁ p₂ p₃.
            subst (λ (y : ItemKind). CountedAs ts y x) (sym p₁) (record {
              reads = rw p₂ (m.reads ∙ ap (λ (y : RawTransition Span). length y.read) m.same);
              writes = rw p₂ (m.writes ∙ ap (λ (y : RawTransition Span). length y.write) m.same);
              dirs = rw (p₂, p₃) (m.dirs ∙ ap (λ (y : RawTransition Span). length y.dir) m.same);
            }))

    -- an item by its keyword
    item_of-means : (n : Name) → kind_number t₀.kind ≡ 0 → Means ts (item_of (kind_of n) ws i₀) (finished whole note (item_by z.place n l₀))
    unfolding item_of then lead_of value_at value item_by ◌>>=◌ item_means bind
    item_of-means machine_word w =
        bare-means Machine Texts once (λ v. one (is_kind 3) ws v) (string z.place) machine_item (string_fits ts junk z more ends)
        (λ v l f r a here e o. ap machine_item (text_means v l f r a here e o)) (λ x p. subst (λ (y : ItemKind). CountedAs ts y x) (sym p) tt)
    item_of-means kind_word w =
        bare-means KindOf (One (word_in kinds)) once (λ v. one (is_choice 0x110010 0x110013) ws v) (choice z.place kinds) (λ a. kind_item a.value) (kind_fits ts junk z more ends)
        (λ v l f r a here e o. ap (λ (x : Located Span Kind). kind_item x.value) (located-at ts junk z more ends (word_in kinds) Transducer v l f r a here e o)) (λ x p. subst (λ (y : ItemKind). CountedAs ts y x) (sym p) tt)
    item_of-means input_word w =
        bare-means Input Texts once (λ v. one (is_kind 3) ws v) (string z.place) input_item (string_fits ts junk z more ends)
        (λ v l f r a here e o. ap input_item (text_means v l f r a here e o)) (λ x p. subst (λ (y : ItemKind). CountedAs ts y x) (sym p) tt)
    item_of-means output_word w =
        subst (λ (y : Result Span (Item Span)). Means ts (item_of Output ws i₀) (finished whole note y))
        (bind_bind (choice z.place outputs l₀) (λ a. decoder z.place a.value) (λ d. give (output_item d)))
        (plain-means Output (λ f d. d ≡ decoder_at ts (i₀ + 1)) once (i₀ + 1) (t₀ ∷ []) l₀ here₁ refl refl (output ws (i₀ + 1)) (bind (choice z.place outputs l₀) λ a. decoder z.place a.value)
        (decoder_fits ts junk z more ends (i₀ + 1) l₀ here₁) output_item (λ f r a e o. ap output_item o) (λ x p. subst (λ (y : ItemKind). CountedAs ts y x) (sym p) tt))
    item_of-means tapes_word w =
        equals-means Tapes (One number_in) once (λ v. one (is_kind 1) ws v) (numeral z.place) tapes_item (number_fits ts junk z more ends)
        (λ v l f r a here e o. ap tapes_item (located-at ts junk z more ends number_in 0 v l f r a here e o)) (λ x p. subst (λ (y : ItemKind). CountedAs ts y x) (sym p) tt)
    item_of-means states_word w =
        equals-means States (Says ts junk z more ends state_in) length (λ v. set (one is_state) ws v) (braced z.place (state z.place)) states_item (states_fits ts junk z more ends)
        (λ v l f r a here e o. ap states_item (set-means state_in v l f r a here e o)) (λ x p. subst (λ (y : ItemKind). CountedAs ts y x) (sym p) tt)
    item_of-means sigma_word w =
        equals-means InputAlphabet (Says ts junk z more ends symbol_in) length (λ v. set (one is_symbol) ws v) (braced z.place (symbol z.place)) input_alphabet_item (symbols_fits ts junk z more ends)
        (λ v l f r a here e o. ap input_alphabet_item (set-means symbol_in v l f r a here e o)) (λ x p. subst (λ (y : ItemKind). CountedAs ts y x) (sym p) tt)
    item_of-means gamma_word w =
        equals-means TapeAlphabet (Says ts junk z more ends symbol_in) length (λ v. set (one is_symbol) ws v) (braced z.place (symbol z.place)) tape_alphabet_item (symbols_fits ts junk z more ends)
        (λ v l f r a here e o. ap tape_alphabet_item (set-means symbol_in v l f r a here e o)) (λ x p. subst (λ (y : ItemKind). CountedAs ts y x) (sym p) tt)
    item_of-means blank_word w =
        equals-means Blank (One symbol_in) once (λ v. one is_symbol ws v) (symbol z.place) (λ a. blank_item a.value) (symbol_fits ts junk z more ends)
        (λ v l f r a here e o. ap (λ (x : Located Span RawSymbol). blank_item x.value) (located-at ts junk z more ends symbol_in raw_blank v l f r a here e o)) (λ x p. subst (λ (y : ItemKind). CountedAs ts y x) (sym p) tt)
    item_of-means start_word w =
        equals-means Start (One state_in) once (λ v. one is_state ws v) (state z.place) start_item (state_fits ts junk z more ends)
        (λ v l f r a here e o. ap start_item (located-at ts junk z more ends state_in [] v l f r a here e o)) (λ x p. subst (λ (y : ItemKind). CountedAs ts y x) (sym p) tt)
    item_of-means final_word w =
        equals-means Final (Says ts junk z more ends state_in) length (λ v. set (one is_state) ws v) (braced z.place (state z.place)) final_item (states_fits ts junk z more ends)
        (λ v l f r a here e o. ap final_item (set-means state_in v l f r a here e o)) (λ x p. subst (λ (y : ItemKind). CountedAs ts y x) (sym p) tt)
    item_of-means delta_word w = transition-means w

    item_means_lem : Means ts (item ws i₀) (finished whole note (item_at z.place (t₀ ∷ l₀)))
    unfolding item item_from item_at choice token taken bind ◌>>=◌ finished line_means token_of
    item_means_lem =
        let p : peek ws i₀ ≡ token_of t₀ = (at_first ts junk z more i₀ t₀ l₀ row₀).1 in
        let e : keyword_of (peek ws i₀) ≡ start_of (word_in keywords t₀.kind) = ap keyword_of p ∙ keyword_view t₀.kind t₀.place t₀.inner row₀.sound.0 in
        subst (λ (x : Optional ItemKind). Means ts (item_from x ws i₀) (finished whole note (bind (taken (word_in keywords t₀.kind) unexpected t₀ l₀) λ n. item_by z.place n.value))) (sym e)
        (go (word_in keywords t₀.kind) refl)
      where
        go : (o : Option Name) → word_in keywords t₀.kind ≡ o → Means ts (item_from (start_of o) ws i₀) (finished whole note (bind (taken o unexpected t₀ l₀) λ n. item_by z.place n.value))
        go None e =
            rw (at_first ts junk z more i₀ t₀ l₀ row₀).1
            (record { same = ap (λ (c : ℕ). error_line c t₀.place) (code_view t₀.kind t₀.place t₀.inner); counted = tt })
        go (Some n) e = item_of-means n (word_number keywords t₀.kind n e)

    row_means : Means ts (line ws i₀) (line_from covering (t₀ ∷ l₀) z.place note)
    unfolding line line_from is_comment token_of
    row_means =
        let p : peek ws i₀ ≡ token_of t₀ = (at_first ts junk z more i₀ t₀ l₀ row₀).1 in
        let g = goes_kind t₀.kind row₀.goes.0 in
        let n : eqb (peek ws i₀).kind 12 ≡ false = ap (λ (x : Words). eqb x.kind 12) p ∙ g.0 in
        let h : eqb (peek ws i₀).kind 13 ≡ false = ap (λ (x : Words). eqb x.kind 13) p ∙ g.1 in
        rw (h, n) item_means_lem

  -- a row without tokens
  empty_means : (i : ℕ) → Here i [] → Means ts (line ws i) (line_from covering [] z.place note)
  unfolding line line_from empty_line is_comment token_of kind_number line_means ending_of remark_of
  empty_means i here = go ends
    where
      p : peek ws i ≡ token_of z
      p = (at_stop ts junk z more i here).1

      go : Stops z.kind → Means ts (line ws i) (empty_line note)
      go (inl e) =
          let h : eqb (peek ws i).kind 13 ≡ true = ap (λ (x : Words). eqb x.kind 13) p ∙ ap (λ (x : TokenKind). eqb (kind_number x) 13) e in
          rw h (record { same = ap (λ (x : TokenKind). empty_line (note_of (ending_of x) z.inner)) (sym e); counted = tt })
      go (inr (s, e)) =
          let h : eqb (peek ws i).kind 13 ≡ false = ap (λ (x : Words). eqb x.kind 13) p ∙ ap (λ (x : TokenKind). eqb (kind_number x) 13) e in
          let n : eqb (peek ws i).kind 12 ≡ true = ap (λ (x : Words). eqb x.kind 12) p ∙ ap (λ (x : TokenKind). eqb (kind_number x) 12) e in
          let f : eqb (peek ws (i + 1)).kind 13 ≡ true = ap (λ (x : ℕ). eqb x 13) (feed_peek s i here e) in
          rw (h, n, f) (record { same = rw ((at_stop ts junk z more i here).0, e); counted = tt })

  pub line_means_lem : (i : ℕ) (l : List (Token Span)) → Here i l → Means ts (line ws i) (line_from covering l z.place note)
  line_means_lem i [] here = empty_means i here
  line_means_lem i (t ∷ l) here = row_means i t l here
