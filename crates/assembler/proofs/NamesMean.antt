-- The names that a walk over a line finds are those that the language sees in it.
use mathlib.Core.Path.{◌≡◌, refl, sym, ap, subst, ◌∙◌}
use mathlib.Core.Bool.{Bool, true, false, cond}
use mathlib.Core.List.{List, [], ◌∷◌, ◌++◌, map}
use Rattle.std.specs.Prelude.{Option, None, Some}
use Prim.Native.Nat.{ℕ, suc, ◌+◌}
use native.Mathlib.Omega.{arith}
use borrow.Author.Tests.{ne_eqb, eqb-true}
use lib.Dec.{eqb}
use lib.ListN.{get_or, drop}
use lib.Seq.{drop-drop, get_or-drop}
use Rattle.diag.proofs.Cases.{by_test_lem}
use Rattle.diag.specs.declared.Span.{Span as Place}
use Rattle.lexer.specs.Tokens.{TokenKind, word, number, quoted, str, sign, comment, newline, unterminated_string, unterminated_quote, Token as Lexed}
use Rattle.lexer.specs.Text.{codes, same}
use Rattle.lexer.proofs.Placed.{Placed, All}
use Rattle.tokens.specs.declared.Token.{Token}
use Rattle.parser.specs.Row.{peek, ended}
use Rattle.parser.specs.Views.{is_state}
use Rattle.parser.specs.Meaning.{token_of, Sound, seen_on, seen}
use Rattle.parser.proofs.Views.{is_some, sees_state}
use Rattle.language.specs.Machine.{Located}
use Rattle.language.specs.Lines.{state_in}
use Rattle.assembler.specs.Finals.{name_at, names_from}
use Rattle.assembler.proofs.SetsMean.{AllSound}
use Rattle.assembler.proofs.FinalsMean.{NameIs, AllNames, no_names, one_name}

-- ---- what is seen of tokens
seen_on_lem : {A : Type 0} (o : Option A) (p : Place) (x y z : List (Located Place A)) → x ≡ y ++ z → seen_on o p x ≡ seen_on o p y ++ z
unfolding seen_on
seen_on_lem None p x y z e = e
seen_on_lem {A} (Some a) p x y z e = ap (λ (l : List (Located Place A)). record { value = a; place = p } ∷ l) e

pub seen-append : {A : Type 0} (view : TokenKind → Option A) (a b : List (Lexed Place)) → seen view (a ++ b) ≡ seen view a ++ seen view b
unfolding seen
seen-append view [] b = refl
seen-append view (t ∷ a) b = seen_on_lem (view t.kind) t.place (seen view (a ++ b)) (seen view a) (seen view b) (seen-append view a b)

pub seen_by : {A : Type 0} (view : TokenKind → Option A) (t : Lexed Place) (m : List (Lexed Place)) (o : Option A) → view t.kind ≡ o → seen view (t ∷ m) ≡ seen_on o t.place (seen view m)
unfolding seen
seen_by {A} view t m o e = ap (λ (o : Option A). seen_on o t.place (seen view m)) e

-- a token of which nothing is seen
pub seen_none : {A : Type 0} (view : TokenKind → Option A) (t : Lexed Place) (m : List (Lexed Place)) → view t.kind ≡ None → seen view (t ∷ m) ≡ seen view m
unfolding seen_on
seen_none view t m e = seen_by view t m None e

-- a token that is no word is no state
pub no_state : (t : Lexed Place) (k : ℕ) → Sound t → eqb (token_of t).kind k ≡ true → (k ≡ 0 → ⊥) → state_in t.kind ≡ None
unfolding is_state
no_state t k s e n =
    let z : (token_of t).kind ≡ k = eqb-true (token_of t).kind k e in
    let o : eqb (token_of t).kind 0 ≡ false = ne_eqb (token_of t).kind 0 (λ q. n (sym z ∙ q)) in
    let f : is_state (token_of t) ≡ false = rw o in
    go (state_in t.kind) (sym (sees_state t.kind t.place t.inner s) ∙ f)
  where
    go : (o : Option (List ℕ)) → is_some o ≡ false → o ≡ None
    go None e = refl
    go (Some w) e = absurd (let z : ◌≡◌ {A = ℕ} 0 1 = cc in omega arith)

-- a state is spelled by a word
pub state-word : (k : TokenKind) (w : List ℕ) → state_in k ≡ Some w → k ≡ word w
unfolding state_in
state-word (word v) w e = by_test_lem (same v (codes "_")) (λ y. let z : None ≡ Some w = rw y at e in absurd (let o : ◌≡◌ {A = ℕ} 0 1 = cc in omega arith)) (λ n. let z : Some v ≡ Some w = rw n at e in let q : v ≡ w = cc in ap word q)
state-word (number v) w e = absurd (let o : ◌≡◌ {A = ℕ} 0 1 = cc in omega arith)
state-word (quoted c) w e = absurd (let o : ◌≡◌ {A = ℕ} 0 1 = cc in omega arith)
state-word (str v) w e = absurd (let o : ◌≡◌ {A = ℕ} 0 1 = cc in omega arith)
state-word (sign c) w e = absurd (let o : ◌≡◌ {A = ℕ} 0 1 = cc in omega arith)
state-word (comment v) w e = absurd (let o : ◌≡◌ {A = ℕ} 0 1 = cc in omega arith)
state-word newline w e = absurd (let o : ◌≡◌ {A = ℕ} 0 1 = cc in omega arith)
state-word unterminated_string w e = absurd (let o : ◌≡◌ {A = ℕ} 0 1 = cc in omega arith)
state-word unterminated_quote w e = absurd (let o : ◌≡◌ {A = ℕ} 0 1 = cc in omega arith)

-- ---- the walk
-- no line feed among tokens
abbrev pub AllFree : List (Lexed Place) → Type 0
AllFree [] = Unit {0}
AllFree (t ∷ ts) = (eqb (token_of t).kind 13 ≡ false) × AllFree ts

module _ (text : List ℕ) (ts : List Token) where
  from_by : (a : ℕ) (w : Token) (r : List Token) (b : Bool) → eqb w.kind 13 ≡ b → names_from a (w ∷ r) ≡ elim b [ true ↦ [] | false ↦ name_at a w ++ names_from (suc a) r ]
  unfolding names_from
  from_by a w r b e = ap (λ (b : Bool). elim b [ true ↦ [] | false ↦ name_at a w ++ names_from (suc a) r ]) e

  name_by : (a : ℕ) (w : Token) (b : Bool) → is_state w ≡ b → name_at a w ≡ cond b (a ∷ []) []
  unfolding name_at
  name_by a w b e = ap (λ (b : Bool). cond b (a ∷ []) []) e

  named : (a : ℕ) (t : Lexed Place) (body : List (Lexed Place)) → peek ts a ≡ token_of t → Sound t → Placed text t → AllNames text ts (names_from (suc a) (drop (suc a) ts)) (seen state_in body)
      → AllNames text ts (name_at a (token_of t) ++ names_from (suc a) (drop (suc a) ts)) (seen state_in (t ∷ body))
  unfolding seen_on
  named a t body here s p ih = go (state_in t.kind) refl
    where
      js : List ℕ
      js = names_from (suc a) (drop (suc a) ts)

      go : (o : Option (List ℕ)) → state_in t.kind ≡ o → AllNames text ts (name_at a (token_of t) ++ names_from (suc a) (drop (suc a) ts)) (seen state_in (t ∷ body))
      go None e =
          let n : name_at a (token_of t) ≡ [] = name_by a (token_of t) false (sees_state t.kind t.place t.inner s ∙ ap is_some e) in
          rw (n, seen_by state_in t body None e) ih
      go (Some w) e =
          let n : name_at a (token_of t) ≡ a ∷ [] = name_by a (token_of t) true (sees_state t.kind t.place t.inner s ∙ ap is_some e) in
          let l : Located Place (List ℕ) = record { value = w; place = t.place } in
          let is : NameIs text (peek ts a) l = record { token = t; placed = p; spelled = state-word t.kind w e; place = refl; words = here } in
          rw (n, seen_by state_in t body (Some w) e) (one_name is ih)

  -- tokens up to a line feed, from the index a on
  pub walk_mean : (body : List (Lexed Place)) (a : ℕ) (w : Token) (r : List Token) → AllFree body → AllSound body → All (Placed text) body → eqb w.kind 13 ≡ true
      → drop a ts ≡ map token_of body ++ (w ∷ r) → AllNames text ts (names_from a (drop a ts)) (seen state_in body)
  unfolding seen
  walk_mean [] a w r f s p e d = subst (λ (l : List ℕ). AllNames text ts l []) (sym (ap (names_from a) d ∙ from_by a w r true e)) no_names
  walk_mean (t ∷ body) a w r f s p e d =
      let next : drop (suc a) ts ≡ map token_of body ++ (w ∷ r) = (let z : a + 1 ≡ suc a = omega arith in ap (λ (k : ℕ). drop k ts) (sym z) ∙ sym (drop-drop 1 a ts) ∙ ap (drop 1) d) in
      let here : peek ts a ≡ token_of t = (let z : a + 0 ≡ a = omega arith in ap (peek ts) (sym z) ∙ sym (get_or-drop a ts 0 ended) ∙ ap (λ (l : List Token). get_or l 0 ended) d) in
      let split : names_from a (drop a ts) ≡ name_at a (token_of t) ++ names_from (suc a) (drop (suc a) ts) =
      ap (names_from a) d ∙ from_by a (token_of t) (map token_of body ++ (w ∷ r)) false f.0 ∙ ap (λ (l : List Token). name_at a (token_of t) ++ names_from (suc a) l) (sym next) in
      let ih = walk_mean body (suc a) w r f.1 s.1 p.1 e next in
      subst (λ (l : List ℕ). AllNames text ts l (seen state_in (t ∷ body))) (sym split) (named a t body here s.0 p.0 ih)
