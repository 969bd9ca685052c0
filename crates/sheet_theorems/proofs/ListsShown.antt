-- The lists of a rule: their entries stand at every second index, or are sets, and are what the language sees in their tokens.
use Rattle.diag.specs.declared.Code.{Code}
use Rattle.parser.proofs.Lists.{done_same}
use mathlib.Core.Path.{◌≡◌, refl, sym, ap, subst, ◌∙◌}
use mathlib.Core.Bool.{Bool, true, false, cond}
use mathlib.Core.List.{List, [], ◌∷◌, map}
use Rattle.std.specs.Prelude.{Option, None, Some}
use Prim.Native.Nat.{ℕ, zero, suc, ◌+◌, ◌-◌, ◌≤◌, ◌<◌}
use native.Mathlib.Omega.{arith}
use borrow.Author.Tests.{eqb-true, eqb-false}
use lib.Dec.{eqb}
use lib.ListN.{length, take, drop}
use lib.Seq.{drop-cons}
use Rattle.diag.proofs.Cases.{by_test_lem}
use Rattle.diag.specs.declared.Span.{Span as Place}
use Rattle.lexer.specs.Tokens.{TokenKind, Token as Lexed}
use Rattle.lexer.proofs.Steps.{Good}
use Rattle.tokens.specs.declared.Token.{Token}
use Rattle.parser.specs.Row.{peek}
use Rattle.parser.specs.Views.{is_direction, is_text}
use Rattle.parser.specs.Lines.{Done, Failed, Parser, then, unexpected, direction, separator, entries_from, entries, tuple}
use Rattle.parser.specs.Meaning.{token_of, nothing, at, between, Sound, seen}
use Rattle.parser.proofs.Views.{is_some}
use Rattle.language.specs.Machine.{Located}
use Rattle.assembler.proofs.Braces.{separator_done}
use Rattle.assembler.proofs.Inside.{then_done}
use Rattle.assembler.proofs.NamesMean.{seen_by, seen_none}
use Rattle.assembler.proofs.EntriesMean.{Tokens, peek-map, between_none}
use Rattle.sheet.specs.Rules.{first_entry}
use Rattle.sheet_theorems.proofs.Shows.{Both, no_members, members, every_second}

-- ---- entries of one token each, with a comma between two of them, up to a closing sign
pub data Series (f : Token → Bool) (close : ℕ) (ts : List Token) : ℕ → ℕ → Type 0 where
  last_one : {i j : ℕ} → f (peek ts i) ≡ true → eqb (peek ts (i + 1)).kind close ≡ true → j ≡ i + 2 → Series f close ts i j
  one_more : {i j : ℕ} → f (peek ts i) ≡ true → eqb (peek ts (i + 1)).kind 8 ≡ true → Series f close ts (i + 2) j → Series f close ts i j

pub series_high : (f : Token → Bool) (close : ℕ) (ts : List Token) (i j : ℕ) → Series f close ts i j → i + 2 ≤ j
series_high f close ts i j (last_one y c e) = omega arith
series_high f close ts i j (one_more y c s) = omega (arith, series_high f close ts (i + 2) j s)

-- a list of a parser that takes one token
abbrev pub Takes : Parser → (Token → Bool) → Type 0
Takes p f = (ts : List Token) (i j n : ℕ) → p ts i ≡ Done j n → (j ≡ i + 1) × (f (peek ts i) ≡ true)

pub failed_done : {X : Type 0} (c : Code) (s : Place) (j n : ℕ) → Failed c s ≡ Done j n → X
failed_done c s j n e = absurd (let z : ◌≡◌ {A = ℕ} 0 1 = cc in omega arith)

pub direction-takes : Takes direction is_direction
unfolding direction unexpected
direction-takes ts i j n e =
    by_test_lem (is_direction (peek ts i)) (λ y. let z : Done (i + 1) 1 ≡ Done j n = rw y at e in (sym (done_same z).0, y))
    (λ x. by_test_lem (is_text (peek ts i)) (λ y. failed_done _ _ j n (rw (x, y) at e)) (λ y. failed_done _ _ j n (rw (x, y) at e)))

module _ (p : Parser) (f : Token → Bool) (takes : Takes p f) (close : ℕ) (ts : List Token) where
  from_series : (k i n j m : ℕ) → entries_from p close ts k i n ≡ Done j m → Series f close ts i j
  unfolding entries_from unexpected
  from_series zero i n j m e = failed_done _ _ j m e
  from_series (suc k) i n j m e =
      then_done (p ts i) (λ j _. then (separator close ts j) λ next more. elim (eqb more 0) [ true ↦ Done next (n + 1) | false ↦ entries_from p close ts k next (n + 1) ]) j m e λ a x u v.
      then_done (separator close ts a) (λ next more. elim (eqb more 0) [ true ↦ Done next (n + 1) | false ↦ entries_from p close ts k next (n + 1) ]) j m v λ b more s w.
      let o = takes ts i a x u in
      let q = separator_done close ts a b more s in
      let two : b ≡ i + 2 = omega (arith, q.next) in
      by_test_lem (eqb more 0)
      (λ y.
      let z : Done b (n + 1) ≡ Done j m = sym (ap (λ (t : Bool). elim t [ true ↦ Done b (n + 1) | false ↦ entries_from p close ts k b (n + 1) ]) y) ∙ w in
      let h : b ≡ j = (done_same z).0 in
      last_one o.1 (ap (λ (k : ℕ). eqb (peek ts k).kind close) (sym o.0) ∙ q.closing (eqb-true more 0 y)) (sym h ∙ two))
      (λ y.
      let z : entries_from p close ts k b (n + 1) ≡ Done j m = sym (ap (λ (t : Bool). elim t [ true ↦ Done b (n + 1) | false ↦ entries_from p close ts k b (n + 1) ]) y) ∙ w in
      one_more o.1 (ap (λ (k : ℕ). eqb (peek ts k).kind 8) (sym o.0) ∙ q.comma (λ z. eqb-false more 0 y z))
      (subst (λ (b : ℕ). Series f close ts b j) two (from_series k b (n + 1) j m z)))

  pub entries_series : (i j n : ℕ) → entries p close ts i 0 ≡ Done j n → Series f close ts i j
  unfolding entries
  entries_series i j n e = from_series (suc (length ts)) i 0 j n e

-- ---- the tokens of the line: from the fourth on those of the row E, where the line begins at the index o, are the text's
module _ (l : Tokens) where
  pub between_first : (i k : ℕ) → i < k → i < length l → between l i k ≡ at l i ∷ between l (i + 1) k
  between_first i k h g =
      let a : k - i ≡ suc (k - (i + 1)) = omega arith in
      let b : suc i ≡ i + 1 = omega arith in
      ap (λ (n : ℕ). take n (drop i l)) a ∙ ap (take (suc (k - (i + 1)))) (drop-cons l i nothing g) ∙ ap (λ (n : ℕ). at l i ∷ take (k - (i + 1)) (drop n l)) b

pub record RowOf (E : List Token) (o b : ℕ) (l : Tokens) : Type 0 where
  pub same : (r : ℕ) → 4 ≤ r → r ≤ b → peek E (o + r) ≡ token_of (at l r)
  pub fits : o + suc b ≤ length E
  pub short : suc b ≤ length l
  pub sound : (r : ℕ) → r ≤ b → Sound (at l r)
  pub good : (r : ℕ) → r ≤ b → Good (at l r).kind

module _ (E : List Token) (o b : ℕ) (l : Tokens) (row : RowOf E o b l) where
  abbrev W : List Token
  W = map token_of l

  -- a test of the row's token is one of the text's
  pub token_is : (P : Token → Bool) (x : Bool) (r : ℕ) → P (peek W r) ≡ x → P (token_of (at l r)) ≡ x
  token_is P x r e = ap P (sym (peek-map l r)) ∙ e

  pub first_entry_lem : (w : ℕ) → 4 ≤ w → w ≤ b → (x : Bool) → eqb (peek W w).kind 4 ≡ x → first_entry E (o + w) ≡ cond x (o + w + 1) (o + w)
  unfolding first_entry
  first_entry_lem w h g x e = ap (λ (x : Bool). cond x (o + w + 1) (o + w)) (ap (λ (t : Token). eqb t.kind 4) (row.same w h g) ∙ token_is (λ t. eqb t.kind 4) x w e)

  -- ---- lists of single tokens, seen by a view
  module _ {A : Type 0} (view : TokenKind → Option A) (f : Token → Bool) (R : Token → Located Place A → Type 0)
      (sees : (t : Lexed Place) → Sound t → f (token_of t) ≡ is_some (view t.kind))
      (shows : (t : Lexed Place) (a : A) → Sound t → Good t.kind → view t.kind ≡ Some a → R (token_of t) (record { value = a; place = t.place }))
      (signs : (t : Token) (n : ℕ) → 3 < n → n < 10 → eqb t.kind n ≡ true → f t ≡ false) where
    no_view : (o : Option A) → is_some o ≡ false → o ≡ None
    no_view None e = refl
    no_view (Some a) e = absurd (let z : ◌≡◌ {A = ℕ} 0 1 = cc in omega arith)

    -- a sign is not seen
    unseen : (r n k : ℕ) → 3 < n → n < 10 → eqb (peek W r).kind n ≡ true → r < k → r ≤ b → seen view (between l r k) ≡ seen view (between l (r + 1) k)
    unseen r n k h g e low high =
        ap (seen view) (between_first l r k low (omega (arith, row.short)))
        ∙ seen_none view (at l r) (between l (r + 1) k)
        (no_view (view (at l r).kind) (sym (sees (at l r) (row.sound r high)) ∙ signs (token_of (at l r)) n h g (token_is (λ t. eqb t.kind n) true r e)))

    -- an entry is, and the sign behind it is not
    record Front (r k : ℕ) : Type 0 where
      value : A
      front : seen view (between l r k) ≡ record { value = value; place = (at l r).place } ∷ seen view (between l (r + 2) k)
      shown : R (peek E (o + r)) (record { value = value; place = (at l r).place })

    front : (r n k : ℕ) → 4 ≤ r → f (peek W r) ≡ true → 3 < n → n < 10 → eqb (peek W (r + 1)).kind n ≡ true → r + 2 ≤ k → k ≤ suc b → Front r k
    unfolding seen
    front r n k low y h g e high top = go (view (at l r).kind) refl (sym (sees (at l r) (row.sound r (omega arith))) ∙ token_is f true r y)
      where
        go : (v : Option A) → view (at l r).kind ≡ v → is_some v ≡ true → Front r k
        go None q s = absurd (let z : ◌≡◌ {A = ℕ} 0 1 = cc in omega arith)
        go (Some a) q s = record {
          value = a;
          front =
              let two : r + 1 + 1 ≡ r + 2 = omega arith in
              ap (seen view) (between_first l r k (omega arith) (omega (arith, row.short))) ∙ seen_by view (at l r) (between l (r + 1) k) (Some a) q
              ∙ ap (λ (x : List (Located Place A)). record { value = a; place = (at l r).place } ∷ x)
              (unseen (r + 1) n k h g e (omega arith) (omega arith) ∙ ap (λ (m : ℕ). seen view (between l m k)) two);
          shown =
              subst (λ (t : Token). R t (record { value = a; place = (at l r).place })) (sym (row.same r low (omega arith)))
              (shows (at l r) a (row.sound r (omega arith)) (row.good r (omega arith)) q);
        }

    abbrev Shown : ℕ → List (Located Place A) → Type 0
    Shown r xs = Both R (every_second E r xs) xs

    series_shown : (close : ℕ) → 3 < close → close < 10 → (i j k : ℕ) → 4 ≤ i → Series f close W i j → j ≤ k → k ≤ suc b → seen view (between l j k) ≡ [] → Shown (o + i) (seen view (between l i k))
    unfolding every_second
    series_shown close h g i j k low (last_one y c e) high top rest =
        let w = front i close k low y h g c (omega arith) top in
        let all : seen view (between l i k) ≡ record { value = w.value; place = (at l i).place } ∷ [] =
        w.front ∙ ap (λ (m : ℕ). record { value = w.value; place = (at l i).place } ∷ seen view (between l m k)) (sym e) ∙ ap (λ (x : List (Located Place A)). record { value = w.value; place = (at l i).place } ∷ x) rest in
        subst (Shown (o + i)) (sym all) (members w.shown no_members)
    series_shown close h g i j k low (one_more y c s) high top rest =
        let w = front i 8 k low y (omega arith) (omega arith) c (omega (arith, series_high f close W (i + 2) j s)) top in
        let z : o + (i + 2) ≡ o + i + 2 = omega arith in
        subst (Shown (o + i)) (sym w.front)
        (members w.shown (subst (λ (r : ℕ). Shown r (seen view (between l (i + 2) k))) z (series_shown close h g (i + 2) j k (omega arith) s high top rest)))

    -- one entry, or several in parentheses, and a sign behind them
    pub tuple_shown : (p : Parser) → Takes p f → (w j n c : ℕ) → 4 ≤ w → tuple p W w ≡ Done j n → 3 < c → c < 10 → eqb (peek W j).kind c ≡ true → j ≤ b
        → Shown (first_entry E (o + w)) (seen view (between l w (j + 1)))
    unfolding tuple seen
    tuple_shown p takes w j n c low e h g s high =
        let last : seen view (between l (j + 1) (j + 1)) ≡ [] = ap (seen view) (between_none l (j + 1)) in
        by_test_lem (eqb (peek W w).kind 4)
        (λ y.
        let e₁ : entries p 5 W (w + 1) 0 ≡ Done j n = rw y at e in
        let ser = entries_series p f takes 5 W (w + 1) j n e₁ in
        let long = series_high f 5 W (w + 1) j ser in
        let rest : seen view (between l j (j + 1)) ≡ [] = unseen j c (j + 1) h g s (omega arith) high ∙ last in
        let z : o + (w + 1) ≡ o + w + 1 = omega arith in
        let at_first : first_entry E (o + w) ≡ o + (w + 1) = first_entry_lem w low (omega arith) true y ∙ sym z in
        subst (λ (r : ℕ). Shown r (seen view (between l w (j + 1)))) (sym at_first)
        (subst (Shown (o + (w + 1))) (sym (unseen w 4 (j + 1) (omega arith) (omega arith) y (omega arith) (omega arith)))
        (series_shown 5 (omega arith) (omega arith) (w + 1) j (j + 1) (omega arith) ser (omega arith) (omega arith) rest)))
        (λ x.
        let o₁ = takes W w j n (rw x at e) in
        let at_first : first_entry E (o + w) ≡ o + w = first_entry_lem w low (omega (arith, o₁.0)) false x in
        let sign : eqb (peek W (w + 1)).kind c ≡ true = ap (λ (k : ℕ). eqb (peek W k).kind c) (sym o₁.0) ∙ s in
        let end : w + 2 ≡ j + 1 = omega (arith, o₁.0) in
        subst (λ (r : ℕ). Shown r (seen view (between l w (j + 1)))) (sym at_first)
        (series_shown c h g w (w + 2) (j + 1) low (last_one o₁.1 sign refl) (omega (arith, o₁.0)) (omega arith) (ap (λ (k : ℕ). seen view (between l k (j + 1))) end ∙ last)))
