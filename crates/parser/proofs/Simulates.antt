-- Each parser over the row does what the language's parser does on the tokens from the
-- index on, up to what ends the line's tokens.
use Rattle.diag.specs.declared.Code.{Code}
use Rattle.diag.specs.declared.Code.TheVariants.{NoDirection}
use Rattle.std.specs.Prelude.{Err, Option, None, Some}
use mathlib.Core.Path.{◌≡◌, refl, sym, ap, subst, ◌∙◌}
use Prim.Native.Nat.{ℕ, zero, suc, ◌+◌, ◌-◌, ◌≤◌, ◌<◌}
use native.Mathlib.Omega.{arith}
use mathlib.Core.Bool.{Bool, true, false, cond}
use mathlib.Core.Logic.{◌⊎◌, inl, inr}
use mathlib.Core.List.{List, [], ◌∷◌, ◌++◌, map, append_assoc}
use lib.Dec.{eqb}
use borrow.Author.Tests.{eqb-true}
use lib.ListN.{length, get_or, take, drop, length-append, length-drop, length-map, get_or-append, get_or-map}
use lib.Seq.{get_or-drop, drop-drop, drop-append_seam, take-append_seam}
use Rattle.lexer.specs.Tokens.{TokenKind, word, number, quoted, str, sign, comment, newline, unterminated_string, unterminated_quote, Span, Token}
use Rattle.language.specs.Machine.{Located}
use Rattle.language.specs.Parser.{Result, ok, fail, Parser, when, taken, unexpected, sign_in, is_sign, goes_on, branch, go_on, at_most, give, ◌>>=◌}
use Rattle.language.specs.Parser.{then as bind, one as token, expect, opened, entries as listed, single, tuple as tupled, set as braced}
use Rattle.language.specs.Lines.{goes_by, ending_of}
use Rattle.language.proofs.Every.{by_test, Every}
use Rattle.parser.specs.Row.{peek}
use Rattle.parser.specs.Views.{span_of, is_kind, is_direction, is_text}
use Rattle.parser.specs.Lines.{Parsed, Done, Failed, then, code_of, unexpected as refused, one, direction, separator, entries, set, tuple, code_number}
use Rattle.parser.specs.Meaning.{token_of, nothing, at, between, SoundAs, Sound}
use Rattle.tokens.specs.declared.Token.{Token as Words}
use Rattle.parser.proofs.Lists.{Within, Steps, turn, entries-turn}
use Rattle.parser.proofs.Tables.{true_false}
use Rattle.parser.proofs.Views.{is_some, tok, Names, names-comma, names_l_paren, names_r_paren, names_l_brace, names_r_brace, Sees, sees_sign, code_view}

-- what ends a line's tokens: a comment or a line feed
abbrev pub Stops : TokenKind → Type 0
Stops k = (k ≡ newline) ⊎ ((s : List ℕ) × (k ≡ comment s))

-- a parser's answer over the row from the index i on, and one on the tokens l: `Means front value` is
-- what a value says of the tokens that it took
abbrev pub Fits : {A : Type 0} → ℕ → List (Token Span) → (List (Token Span) → A → Type 0) → (A → ℕ) → Parsed ℕ → Result Span A → Type 0
Fits i l Means count (Done j n) (ok a r) = (f : List (Token Span)) × (l ≡ f ++ r) × (j ≡ i + length f) × (n ≡ count a) × Means f a
Fits i l Means count (Done j n) (fail c p) = ⊥
Fits i l Means count (Err bad) (ok a r) = ⊥
Fits i l Means count (Err bad) (fail d p) = (code_number bad.code ≡ d) × (bad.span ≡ p)

-- ---- one token
-- a parser that goes by a test of the token, with the code where it fails
pub record Tests (p : List Words → ℕ → Parsed ℕ) (f : Words → Bool) (code : Words → Code) : Type 0 where
  pub tests : (ws : List Words) (i : ℕ) → p ws i ≡ cond (f (peek ws i)) (Done (i + 1) 1) (Failed (code (peek ws i)) (span_of (peek ws i)))

-- a view that takes nothing that ends a line's tokens, with the code there
pub record Quiet {A : Type 0} (view : TokenKind → Option A) (bad : TokenKind → ℕ) : Type 0 where
  pub at_newline : view newline ≡ None
  pub at-comment : (s : List ℕ) → view (comment s) ≡ None
  pub bad_newline : bad newline ≡ 1
  pub bad_comment : (s : List ℕ) → bad (comment s) ≡ 1

quiet_view : {A : Type 0} (view : TokenKind → Option A) (bad : TokenKind → ℕ) → Quiet view bad → (k : TokenKind) → Stops k → (view k ≡ None) × (bad k ≡ 1)
quiet_view view bad q k (inl e) = (ap view e ∙ q.at_newline, ap bad e ∙ q.bad_newline)
quiet_view view bad q k (inr (s, e)) = (ap view e ∙ q.at-comment s, ap bad e ∙ q.bad_comment s)

stop_sound : (k : TokenKind) (p : Span) → Stops k → SoundAs k p
unfolding SoundAs
stop_sound k p (inl e) = subst (λ (x : TokenKind). SoundAs x p) (sym e) tt
stop_sound k p (inr (s, e)) = subst (λ (x : TokenKind). SoundAs x p) (sym e) tt

-- what one token says, with its place
pub record One {A : Type 0} (view : TokenKind → Option A) (f : List (Token Span)) (a : Located Span A) : Type 0 where
  pub taker : Token Span
  pub front : f ≡ taker ∷ []
  pub says : view taker.kind ≡ Some a.value
  pub there : taker.place ≡ a.place

abbrev pub once : {A : Type 0} → A → ℕ
once a = 1

pub one_tests : (f : Words → Bool) → Tests (one f) f code_of
unfolding one refused
one_tests f = record { tests = λ ws i. refl }

pub direction_tests : Tests direction is_direction (λ t. cond (is_text t) NoDirection (code_of t))
unfolding direction refused
direction_tests = record { tests = λ ws i. go (is_direction (peek ws i)) (is_text (peek ws i)) i (peek ws i) }
  where
    go : (a b : Bool) (i : ℕ) (t : Words)
        → cond a (Done {A = ℕ} (i + 1) 1) (cond b (Failed NoDirection (span_of t)) (Failed (code_of t) (span_of t))) ≡ cond a (Done {A = ℕ} (i + 1) 1) (Failed (cond b NoDirection (code_of t)) (span_of t))
    go true b i t = refl
    go false true i t = refl
    go false false i t = refl

pub quiet_sign : (c : ℕ) → Quiet (is_sign c) unexpected
unfolding is_sign sign_in unexpected
quiet_sign c = record { at_newline = refl; at-comment = λ s. refl; bad_newline = refl; bad_comment = λ s. refl }

-- ---- behind an entry
picked : Bool → Bool → Option Bool
picked true b = Some true
picked false true = Some false
picked false false = None

goes_on_lem : (c : ℕ) (k : TokenKind) → goes_on c k ≡ picked (is_some (is_sign 0x2C k)) (is_some (is_sign c k))
unfolding goes_on is_sign sign_in picked
goes_on_lem c (word w) = refl
goes_on_lem c (number w) = refl
goes_on_lem c (quoted d) = refl
goes_on_lem c (str t) = refl
goes_on_lem c (sign d) = go (eqb d 0x2C) (eqb d c)
  where
    go : (a b : Bool) → elim a [ true ↦ Some true | false ↦ when b false ] ≡ picked (is_some {A = Bool} (when a true)) (is_some {A = Bool} (when b true))
    go true b = refl
    go false true = refl
    go false false = refl
goes_on_lem c (comment t) = refl
goes_on_lem c newline = refl
goes_on_lem c unterminated_string = refl
goes_on_lem c unterminated_quote = refl

none-some : {A : Type 0} {X : Type 0} (a : A) → None ≡ Some a → X
none-some a e = true_false (sym (ap is_some e))

pub is_sign_lem : (c : ℕ) (k : TokenKind) → is_some (is_sign c k) ≡ true → k ≡ sign c
unfolding is_sign sign_in
is_sign_lem c (word w) e = true_false (sym e)
is_sign_lem c (number w) e = true_false (sym e)
is_sign_lem c (quoted d) e = true_false (sym e)
is_sign_lem c (str t) e = true_false (sym e)
is_sign_lem c (sign d) e = by_test (eqb d c) (λ y. ap sign (eqb-true d c y)) (λ n. true_false (sym (sym (ap (λ (b : Bool). is_some {A = Bool} (when b true)) n) ∙ e)))
is_sign_lem c (comment t) e = true_false (sym e)
is_sign_lem c newline e = true_false (sym e)
is_sign_lem c unterminated_string e = true_false (sym e)
is_sign_lem c unterminated_quote e = true_false (sym e)

goes_comma : (c : ℕ) (k : TokenKind) → goes_on c k ≡ Some true → k ≡ sign 0x2C
unfolding picked
goes_comma c k e = go (is_some (is_sign 0x2C k)) (is_some (is_sign c k)) refl (sym (goes_on_lem c k) ∙ e)
  where
    go : (a b : Bool) → is_some (is_sign 0x2C k) ≡ a → picked a b ≡ Some true → k ≡ sign 0x2C
    go true b h q = is_sign_lem 0x2C k h
    go false true h q = true_false (sym (let z : false ≡ true = cc in z))
    go false false h q = none-some true q

goes_close : (c : ℕ) (k : TokenKind) → goes_on c k ≡ Some false → k ≡ sign c
unfolding picked
goes_close c k e = go (is_some (is_sign 0x2C k)) (is_some (is_sign c k)) refl (sym (goes_on_lem c k) ∙ e)
  where
    go : (a b : Bool) → is_some (is_sign c k) ≡ b → picked a b ≡ Some false → k ≡ sign c
    go true b h q = true_false (let z : true ≡ false = cc in z)
    go false true h q = is_sign_lem c k h
    go false false h q = none-some false q

-- behind a front
every_behind : {A : Type 0} (p : A → Type 0) (f r : List A) → Every p (f ++ r) → Every p r
every_behind p [] r s = s
every_behind p (t ∷ f) r s = every_behind p f r s.1

-- a token that ends no line's tokens
abbrev pub Goes : Token Span → Type 0
Goes t = ending_of t.kind ≡ goes_by

-- entries put in front of what is read behind them
abbrev pub pushes : {A X : Type 0} → (A → X → X) → List A → X → X
pushes push [] x = x
pushes push (a ∷ l) x = push a (pushes push l x)

-- ts are the tokens, at the front of the row; z ends the tokens of a line
module _ (ts : List (Token Span)) (junk : List Words) (z : Token Span) (more : List (Token Span)) where
  abbrev pub row : List Words
  row = map token_of ts ++ junk

  -- from the index i on stand the tokens l of the line and what ends them
  pub record At (i : ℕ) (l : List (Token Span)) : Type 0 where
    pub here : drop i ts ≡ l ++ (z ∷ more)
    pub sound : Every Sound l
    pub goes : Every Goes l

  pub at_token : (i : ℕ) (t : Token Span) (l : List (Token Span)) → drop i ts ≡ t ∷ l → (at ts i ≡ t) × (peek row i ≡ token_of t)
  unfolding token_of
  at_token i t l e =
      let h : i < length ts = omega (arith, ap length e, length-drop i ts) in
      let q : at ts i ≡ t = ap (λ (k : ℕ). get_or ts k nothing) (omega arith) ∙ sym (get_or-drop i ts 0 nothing) ∙ ap (λ (x : List (Token Span)). get_or x 0 nothing) e in
      (q, get_or-append (map token_of ts) junk (token_of nothing) i (rw (length-map ts token_of) h) ∙ get_or-map token_of ts i nothing ∙ ap token_of q)

  pub at_first : (i : ℕ) (t : Token Span) (l : List (Token Span)) → At i (t ∷ l) → (at ts i ≡ t) × (peek row i ≡ token_of t)
  at_first i t l a = at_token i t (l ++ (z ∷ more)) a.here

  pub at_stop : (i : ℕ) → At i [] → (at ts i ≡ z) × (peek row i ≡ token_of z)
  at_stop i a = at_token i z more a.here

  pub at-behind : (i : ℕ) (l f r : List (Token Span)) → At i l → l ≡ f ++ r → At (i + length f) r
  at-behind i l f r a e = record {
    here = sym (drop-drop (length f) i ts) ∙ ap (drop (length f)) (a.here ∙ ap (λ (x : List (Token Span)). x ++ (z ∷ more)) e ∙ append_assoc f r (z ∷ more)) ∙ drop-append_seam f (r ++ (z ∷ more));
    sound = every_behind Sound f r (subst (Every Sound) e a.sound);
    goes = every_behind Goes f r (subst (Every Goes) e a.goes);
  }

  -- the tokens of a front
  pub at-between : (i : ℕ) (l f r : List (Token Span)) → At i l → l ≡ f ++ r → between ts i (i + length f) ≡ f
  at-between i l f r a e =
      let q : i + length f - i ≡ length f = omega arith in
      rw q (ap (take (length f)) (a.here ∙ ap (λ (x : List (Token Span)). x ++ (z ∷ more)) e ∙ append_assoc f r (z ∷ more)) ∙ take-append_seam f (r ++ (z ∷ more)))

  module _ (ends : Stops z.kind) where
    module _ {A : Type 0} (p : List Words → ℕ → Parsed ℕ) (f : Words → Bool) (code : Words → Code) (view : TokenKind → Option A) (bad : TokenKind → ℕ)
        (goes : Tests p f code) (sees : Sees f view) (codes : (k : TokenKind) (p q : Span) → code_number (code (token_of (tok k p q))) ≡ bad k) (quiet : Quiet view bad) where
      -- the answer over the row, by the view
      answer : (i : ℕ) (t : Token Span) → peek row i ≡ token_of t → Sound t → p row i ≡ cond (is_some (view t.kind)) (Done (i + 1) 1) (Failed (code (token_of t)) (span_of (token_of t)))
      answer i t e s =
          goes.tests row i ∙ ap (λ (x : Words). cond (f x) (Done (i + 1) 1) (Failed (code x) (span_of x))) e ∙
          ap (λ (b : Bool). cond b (Done (i + 1) 1) (Failed (code (token_of t)) (span_of (token_of t)))) (sees t.kind t.place t.inner s)

      pub token_fits : (i : ℕ) (l : List (Token Span)) → At i l → Fits i l (One view) once (p row i) (token z.place view bad l)
      unfolding token taken token_of
      token_fits i [] a =
          let q = quiet_view view bad quiet z.kind ends in
          let e : p row i ≡ Failed (code (token_of z)) (span_of (token_of z)) =
          answer i z (at_stop i a).1 (stop_sound z.kind z.place ends)
          ∙ ap (λ (o : Option A). cond (is_some o) (Done (i + 1) 1) (Failed (code (token_of z)) (span_of (token_of z)))) q.0 in
          subst (λ (x : Parsed ℕ). Fits {A = Located Span A} i [] (One view) once x (fail 1 z.place)) (sym e) (codes z.kind z.place z.inner ∙ q.1, refl)
      token_fits i (t ∷ r) a =
          subst (λ (x : Parsed ℕ). Fits i (t ∷ r) (One view) once x (taken (view t.kind) bad t r)) (sym (answer i t (at_first i t r a).1 a.sound.0)) (go (view t.kind) refl)
        where
          go : (o : Option A) → view t.kind ≡ o → Fits i (t ∷ r) (One view) once (cond (is_some o) (Done (i + 1) 1) (Failed (code (token_of t)) (span_of (token_of t)))) (taken o bad t r)
          go None e = (codes t.kind t.place t.inner, refl)
          go (Some v) e = (t ∷ [], refl, refl, refl, record { taker = t; front = refl; says = e; there = refl })

    -- ---- behind an entry
    abbrev pub follows : Located Span Bool → ℕ
    follows b = cond b.value 1 0

    module _ (c close : ℕ) (names : Names c close) where
      parted : (i : ℕ) (t : Token Span) → peek row i ≡ token_of t → Sound t
          → separator close row i ≡ cond (is_some (is_sign 0x2C t.kind)) (Done (i + 1) 1) (cond (is_some (is_sign c t.kind)) (Done (i + 1) 0) (Failed (code_of (token_of t)) (span_of (token_of t))))
      unfolding separator is_kind refused
      parted i t e s =
          ap (λ (x : Words). cond (is_kind 8 x) (Done (i + 1) 1) (cond (is_kind close x) (Done (i + 1) 0) (Failed (code_of x) (span_of x)))) e ∙
          ap (λ (b : Bool). cond b (Done (i + 1) 1) (cond (is_kind close (token_of t)) (Done (i + 1) 0) (Failed (code_of (token_of t)) (span_of (token_of t)))))
          (sees_sign 0x2C 8 names-comma t.kind t.place t.inner s) ∙
          ap (λ (b : Bool). cond (is_some (is_sign 0x2C t.kind)) (Done (i + 1) 1) (cond b (Done (i + 1) 0) (Failed (code_of (token_of t)) (span_of (token_of t)))))
          (sees_sign c close names t.kind t.place t.inner s)

      pub separator_fits : (i : ℕ) (l : List (Token Span)) → At i l → Fits i l (One (goes_on c)) follows (separator close row i) (token z.place (goes_on c) unexpected l)
      unfolding token taken token_of picked is_sign sign_in unexpected
      separator_fits i [] a =
          let e₀ = parted i z (at_stop i a).1 (stop_sound z.kind z.place ends) in
          subst (λ (x : Parsed ℕ). Fits {A = Located Span Bool} i [] (One (goes_on c)) follows x (fail 1 z.place)) (sym (e₀ ∙ quietly z.kind ends))
          (code_view z.kind z.place z.inner ∙ (quiet_view (is_sign c) unexpected (quiet_sign c) z.kind ends).1, refl)
        where
          quietly : (k : TokenKind) → Stops k
              → cond (is_some (is_sign 0x2C k)) (Done {A = ℕ} (i + 1) 1) (cond (is_some (is_sign c k)) (Done (i + 1) 0) (Failed (code_of (token_of z)) (span_of (token_of z)))) ≡ Failed {A = ℕ × ℕ} (code_of (token_of z)) (span_of (token_of z))
          quietly k (inl e) = rw e
          quietly k (inr (s, e)) = rw e
      separator_fits i (t ∷ r) a =
          subst (λ (x : Parsed ℕ). Fits i (t ∷ r) (One (goes_on c)) follows x (taken (goes_on c t.kind) unexpected t r)) (sym (parted i t (at_first i t r a).1 a.sound.0))
          (go (is_some (is_sign 0x2C t.kind)) (is_some (is_sign c t.kind)) (goes_on c t.kind) refl (goes_on_lem c t.kind))
        where
          go : (a b : Bool) (o : Option Bool) → goes_on c t.kind ≡ o → o ≡ picked a b
              → Fits i (t ∷ r) (One (goes_on c)) follows (cond a (Done (i + 1) 1) (cond b (Done (i + 1) 0) (Failed (code_of (token_of t)) (span_of (token_of t))))) (taken o unexpected t r)
          go true b None e q = none-some true q
          go true b (Some v) e q = (t ∷ [], refl, refl, (let h : v ≡ true = cc in rw h), record { taker = t; front = refl; says = e; there = refl })
          go false true None e q = none-some false q
          go false true (Some v) e q = (t ∷ [], refl, refl, (let h : v ≡ false = cc in rw h), record { taker = t; front = refl; says = e; there = refl })
          go false false None e q = (code_view t.kind t.place t.inner, refl)
          go false false (Some v) e q = none-some v (sym q)

    -- ---- entries: R reads them off the tokens, `push` puts one in front of what is read behind it, and
    -- Rc is what is read behind the closing sign
    module _ {A X : Type 0} (p : List Words → ℕ → Parsed ℕ) (steps : Steps p) (P : Parser Span A) (E : List (Token Span) → A → Type 0)
        (fits : (i : ℕ) (l : List (Token Span)) → At i l → Fits i l E once (p row i) (P l)) (stopped : P [] ≡ fail 1 z.place)
        (c close : ℕ) (low : close < 13) (names : Names c close) (R Rc : List (Token Span) → X) (push : A → X → X)
        (pushed : (f g : List (Token Span)) (a : A) → E f a → R (f ++ g) ≡ push a (R g))
        (comma : (t : Token Span) (g : List (Token Span)) → t.kind ≡ sign 0x2C → R (t ∷ g) ≡ R g)
        (closing : (t : Token Span) (g : List (Token Span)) → t.kind ≡ sign c → R (t ∷ g) ≡ Rc g) where
      abbrev pub Listing : List (Token Span) → List A → Type 0
      Listing f l = (g : List (Token Span)) → R (f ++ g) ≡ pushes push l (Rc g)

      turn_fits : (go : ℕ → ℕ → Parsed ℕ) (rest : Parser Span (List A)) (i n : ℕ) (l : List (Token Span)) → At i l
          → ((j : ℕ) (r : List (Token Span)) → At j r → length r < length l → Fits j r Listing (λ b. n + 1 + length b) (go j (n + 1)) (rest r))
          → Fits i l Listing (λ b. n + length b) (turn p steps close low row go i n) (bind (P l) λ a r. bind (token z.place (goes_on c) unexpected r) λ b. go_on b.value rest a)
      unfolding then bind go_on ◌>>=◌
      turn_fits go rest i n l here next = first (p row i) (P l) (fits i l here) (steps.within row i)
        where
          behind : (f r : List (Token Span)) (a : A) (j m : ℕ) (b : Located Span Bool) (f₂ r₂ : List (Token Span)) → l ≡ f ++ r → E f a → r ≡ f₂ ++ r₂ → One (goes_on c) f₂ b
              → j ≡ i + length f + length f₂ → At j r₂ → 1 ≤ length f → m ≡ follows b
              → Fits i l Listing (λ b. n + length b) (elim (eqb m 0) [ true ↦ Done j (n + 1) | false ↦ go j (n + 1) ]) (go_on b.value rest a r₂)
          behind f r a j m b f₂ r₂ e E₁ e₂ o k at₂ some₁ q = third b.value refl
            where
              more₁ : (x : Parsed ℕ) (y : Result Span (List A)) → b.value ≡ true → Fits j r₂ Listing (λ b. n + 1 + length b) x y → Fits i l Listing (λ b. n + length b) x (bind y λ more. give (a ∷ more))
              more₁ (Err bad) (fail d q) v h = h
              more₁ (Err bad) (ok v r₃) w h = absurd h
              more₁ (Done j₃ m₃) (fail d q) v h = absurd h
              more₁ (Done j₃ m₃) (ok v r₃) w (f₃, e₃, k₃, c₃, L) = (
                f ++ (f₂ ++ f₃),
                e ∙ ap (λ (x : List (Token Span)). f ++ x) (e₂ ∙ ap (λ (x : List (Token Span)). f₂ ++ x) e₃ ∙ sym (append_assoc f₂ f₃ r₃)) ∙ sym (append_assoc f (f₂ ++ f₃) r₃),
                omega (arith, length-append f (f₂ ++ f₃), length-append f₂ f₃),
                omega arith,
                λ g.
                    ap R (append_assoc f (f₂ ++ f₃) g) ∙ pushed f ((f₂ ++ f₃) ++ g) a E₁ ∙
                    ap (push a) (ap (λ (x : List (Token Span)). R ((x ++ f₃) ++ g)) o.front ∙ comma o.taker (f₃ ++ g) (goes_comma c o.taker.kind (o.says ∙ ap Some w)) ∙ L g),
              )

              third : (v : Bool) → b.value ≡ v → Fits i l Listing (λ b. n + length b) (elim (eqb m 0) [ true ↦ Done j (n + 1) | false ↦ go j (n + 1) ]) (go_on v rest a r₂)
              third true w =
                  let h : m ≡ 1 = q ∙ ap (λ (v : Bool). cond v 1 0) w in
                  subst (λ (m : ℕ). Fits i l Listing (λ b. n + length b) (elim (eqb m 0) [ true ↦ Done j (n + 1) | false ↦ go j (n + 1) ]) (go_on true rest a r₂)) (sym h)
                  (more₁ (go j (n + 1)) (rest r₂) w
                  (next j r₂ at₂ (omega (arith, ap length e, length-append f r, ap length e₂, length-append f₂ r₂))))
              third false w =
                  let h : m ≡ 0 = q ∙ ap (λ (v : Bool). cond v 1 0) w in
                  subst (λ (m : ℕ). Fits i l Listing (λ b. n + length b) (elim (eqb m 0) [ true ↦ Done j (n + 1) | false ↦ go j (n + 1) ]) (go_on false rest a r₂)) (sym h) (
                    f ++ f₂,
                    e ∙ ap (λ (x : List (Token Span)). f ++ x) e₂ ∙ sym (append_assoc f f₂ r₂),
                    omega (arith, length-append f f₂),
                    refl,
                    λ g.
                        ap R (append_assoc f f₂ g) ∙ pushed f (f₂ ++ g) a E₁ ∙
                        ap (push a) (ap (λ (x : List (Token Span)). R (x ++ g)) o.front ∙ closing o.taker g (goes_close c o.taker.kind (o.says ∙ ap Some w))),
                  )

          second : (f r : List (Token Span)) (a : A) (j : ℕ) → l ≡ f ++ r → E f a → j ≡ i + length f → 1 ≤ length f → At j r → (x : Parsed ℕ) (y : Result Span (Located Span Bool))
              → Fits j r (One (goes_on c)) follows x y
              → Fits i l Listing (λ b. n + length b) (then x λ next more. elim (eqb more 0) [ true ↦ Done next (n + 1) | false ↦ go next (n + 1) ]) (bind y λ b. go_on b.value rest a)
          second f r a j e E₁ k some₁ at₁ (Err bad) (fail d q) h = h
          second f r a j e E₁ k some₁ at₁ (Err bad) (ok b r₂) h = absurd h
          second f r a j e E₁ k some₁ at₁ (Done j₂ m₂) (fail d q) h = absurd h
          second f r a j e E₁ k some₁ at₁ (Done j₂ m₂) (ok b r₂) (f₂, e₂, k₂, c₂, o) =
              behind f r a j₂ m₂ b f₂ r₂ e E₁ e₂ o (omega arith) (subst (λ (x : ℕ). At x r₂) (sym k₂) (at-behind j r f₂ r₂ at₁ e₂)) some₁ c₂

          first : (x : Parsed ℕ) (y : Result Span A) → Fits i l E once x y → Within row i x
              → Fits i l Listing (λ b. n + length b)
              (then x λ j _. then (separator close row j) λ next more. elim (eqb more 0) [ true ↦ Done next (n + 1) | false ↦ go next (n + 1) ])
              (bind y λ a r. bind (token z.place (goes_on c) unexpected r) λ b. go_on b.value rest a)
          first (Err bad) (fail d q) h w = h
          first (Err bad) (ok a r) h w = absurd h
          first (Done j m) (fail d q) h w = absurd h
          first (Done j m) (ok a r) (f, e, k, c₁, E₁) w =
              let at₁ : At j r = subst (λ (x : ℕ). At x r) (sym k) (at-behind i l f r here e) in
              second f r a j e E₁ k (omega arith) at₁ (separator close row j) (token z.place (goes_on c) unexpected r) (separator_fits c close names j r at₁)

      at_most_fits : (k i n : ℕ) (l : List (Token Span)) → length l ≤ k → At i l → Fits i l Listing (λ b. n + length b) (entries p close row i n) (at_most z.place k P c l)
      unfolding at_most ◌>>=◌ then
      at_most_fits zero i n (t ∷ l) h here = absurd (omega arith)
      at_most_fits zero i n [] h here =
          subst (λ (x : Parsed ℕ). Fits i [] Listing (λ b. n + length b) x (fail 1 z.place)) (sym (entries-turn p steps close low row i n))
          (go (p row i) (subst (λ (y : Result Span A). Fits i [] E once (p row i) y) stopped (fits i [] here)))
        where
          go : (x : Parsed ℕ) → Fits {A = A} i [] E once x (fail 1 z.place)
              → Fits {A = List A} i [] Listing (λ b. n + length b) (then x λ j _. then (separator close row j) λ next more. elim (eqb more 0) [ true ↦ Done next (n + 1) | false ↦ entries p close row next (n + 1) ]) (fail 1 z.place)
          go (Err bad) h = h
          go (Done j m) h = absurd h
      at_most_fits (suc k) i n l h here =
          subst (λ (x : Parsed ℕ). Fits i l Listing (λ b. n + length b) x (at_most z.place (suc k) P c l)) (sym (entries-turn p steps close low row i n))
          (turn_fits (λ i n. entries p close row i n) (at_most z.place k P c) i n l here (λ j r at₁ less. at_most_fits k j (n + 1) r (omega arith) at₁))

      pub entries_fits : (i : ℕ) (l : List (Token Span)) → At i l → Fits i l Listing length (entries p close row i 0) (listed z.place P c l)
      unfolding listed
      entries_fits i l here = counted (entries p close row i 0) (listed z.place P c l) (at_most_fits (length l) i 0 l (omega arith) here)
        where
          counted : (x : Parsed ℕ) (y : Result Span (List A)) → Fits i l Listing (λ b. 0 + length b) x y → Fits i l Listing length x y
          counted (Err bad) (fail d q) h = h
          counted (Err bad) (ok a r) h = absurd h
          counted (Done j m) (fail d q) h = absurd h
          counted (Done j m) (ok a r) (f, e, k, n, L) = (f, e, k, omega arith, L)

    -- ---- parsers in a row
    pub bind_fits : {A B : Type 0} (M : List (Token Span) → A → Type 0) (count : A → ℕ) (M' : List (Token Span) → B → Type 0) (count' : B → ℕ) (i : ℕ) (l : List (Token Span)) → At i l
        → (x : Parsed ℕ) (y : Result Span A) → Fits i l M count x y → (k : ℕ → ℕ → Parsed ℕ) (K : A → Parser Span B)
        → ((f r : List (Token Span)) (a : A) → l ≡ f ++ r → M f a → At (i + length f) r → Fits (i + length f) r (λ g b. M' (f ++ g) b) count' (k (i + length f) (count a)) (K a r))
        → Fits i l M' count' (then x k) (bind y K)
    unfolding then bind
    bind_fits M count M' count' i l here (Err bad) (fail d q) h k K go = h
    bind_fits M count M' count' i l here (Err bad) (ok a r) h k K go = absurd h
    bind_fits M count M' count' i l here (Done j m) (fail d q) h k K go = absurd h
    bind_fits {A} {B} M count M' count' i l here (Done j m) (ok a r) (f, e, q, n, w) k K go =
        subst (λ (m : ℕ). Fits i l M' count' (k j m) (K a r)) (sym n)
        (subst (λ (j : ℕ). Fits i l M' count' (k j (count a)) (K a r)) (sym q)
        (further₁ (k (i + length f) (count a)) (K a r) (go f r a e w (at-behind i l f r here e))))
      where
        further₁ : (x : Parsed ℕ) (y : Result Span B) → Fits (i + length f) r (λ g b. M' (f ++ g) b) count' x y → Fits i l M' count' x y
        further₁ (Err bad) (fail d q) h = h
        further₁ (Err bad) (ok a r) h = absurd h
        further₁ (Done j m) (fail d q) h = absurd h
        further₁ (Done j m) (ok b r₂) (f₂, e₂, q₂, n₂, w₂) =
            (f ++ f₂, e ∙ ap (λ (x : List (Token Span)). f ++ x) e₂ ∙ sym (append_assoc f f₂ r₂), omega (arith, length-append f f₂), n₂, w₂)

    -- a value made of another, with no token taken
    pub map_fits : {A B : Type 0} (M : List (Token Span) → A → Type 0) (count : A → ℕ) (M' : List (Token Span) → B → Type 0) (count' : B → ℕ) (i : ℕ) (l : List (Token Span)) (F : A → B)
        → ((f r : List (Token Span)) (a : A) → l ≡ f ++ r → M f a → M' f (F a)) → ((a : A) → count a ≡ count' (F a))
        → (x : Parsed ℕ) (y : Result Span A) → Fits i l M count x y → Fits i l M' count' x (bind y λ a. give (F a))
    unfolding bind
    map_fits M count M' count' i l F m n (Err bad) (fail d q) h = h
    map_fits M count M' count' i l F m n (Err bad) (ok a r) h = absurd h
    map_fits M count M' count' i l F m n (Done j k) (fail d q) h = absurd h
    map_fits M count M' count' i l F m n (Done j k) (ok a r) (f, e, q, c, w) = (f, e, q, c ∙ n a, m f r a e w)

    -- the inner parser behind a sign, or the other
    pub opened_fits : {A : Type 0} (c n : ℕ) → Names c n → (M : List (Token Span) → A → Type 0) (count : A → ℕ) (i : ℕ) (l : List (Token Span)) → At i l → (X Y : Parsed ℕ) (inner other : Parser Span A)
        → ((t : Token Span) (r : List (Token Span)) → l ≡ t ∷ r → t.kind ≡ sign c → At (i + 1) r → Fits (i + 1) r (λ f a. M (t ∷ f) a) count X (inner r))
        → Fits i l M count Y (other l)
        → Fits i l M count (cond (eqb (peek row i).kind n) X Y) (opened z.place c inner other l)
    unfolding opened branch is_kind is_sign sign_in
    opened_fits {A} c n names M count i [] here X Y inner other h₁ h₂ =
        let e : eqb (peek row i).kind n ≡ false =
        ap (λ (x : Words). eqb x.kind n) (at_stop i here).1 ∙ sees_sign c n names z.kind z.place z.inner (stop_sound z.kind z.place ends) ∙ no_sign z.kind ends in
        rw e h₂
      where
        no_sign : (k : TokenKind) → Stops k → is_some (is_sign c k) ≡ false
        no_sign k (inl e) = rw e
        no_sign k (inr (s, e)) = rw e
    opened_fits {A} c n names M count i (t ∷ r) here X Y inner other h₁ h₂ =
        let e : eqb (peek row i).kind n ≡ is_some (is_sign c t.kind) =
        ap (λ (x : Words). eqb x.kind n) (at_first i t r here).1 ∙ sees_sign c n names t.kind t.place t.inner here.sound.0 in
        rw e (go (is_sign c t.kind) refl)
      where
        shifted : (x : Parsed ℕ) (y : Result Span A) → Fits (i + 1) r (λ f a. M (t ∷ f) a) count x y → Fits i (t ∷ r) M count x y
        shifted (Err bad) (fail d q) h = h
        shifted (Err bad) (ok a r) h = absurd h
        shifted (Done j m) (fail d q) h = absurd h
        shifted (Done j m) (ok a r₂) (f, e, q, n, w) = (t ∷ f, ap (λ (x : List (Token Span)). t ∷ x) e, omega arith, n, w)

        go : (o : Option Bool) → is_sign c t.kind ≡ o → Fits i (t ∷ r) M count (cond (is_some o) X Y) (branch o inner other t r)
        go None e = h₂
        go (Some b) e = shifted X (inner r) (h₁ t r refl (is_sign_lem c t.kind (ap is_some e)) (at-behind i (t ∷ r) (t ∷ []) r here refl))

    -- a value that says more of its tokens
    pub weaken_fits : {A : Type 0} (M M' : List (Token Span) → A → Type 0) (count : A → ℕ) (i : ℕ) (l : List (Token Span)) → ((f : List (Token Span)) (a : A) → M f a → M' f a)
        → (x : Parsed ℕ) (y : Result Span A) → Fits i l M count x y → Fits i l M' count x y
    weaken_fits M M' count i l m (Err bad) (fail d q) h = h
    weaken_fits M M' count i l m (Err bad) (ok a r) h = absurd h
    weaken_fits M M' count i l m (Done j k) (fail d q) h = absurd h
    weaken_fits M M' count i l m (Done j k) (ok a r) (f, e, q, c, w) = (f, e, q, c, m f a w)

    -- a sign
    pub sign_fits : (c n : ℕ) → Names c n → (i : ℕ) (l : List (Token Span)) → At i l → Fits i l (One (is_sign c)) once (one (is_kind n) row i) (expect z.place c l)
    unfolding expect
    sign_fits c n names i l here =
        token_fits (one (is_kind n)) (is_kind n) code_of (is_sign c) unexpected (one_tests (is_kind n)) (sees_sign c n names) code_view (quiet_sign c) i l here

    -- ---- tuples and sets, where R reads past parentheses and braces
    module _ {A X : Type 0} (p : List Words → ℕ → Parsed ℕ) (steps : Steps p) (P : Parser Span A) (E : List (Token Span) → A → Type 0)
        (fits : (i : ℕ) (l : List (Token Span)) → At i l → Fits i l E once (p row i) (P l)) (stopped : P [] ≡ fail 1 z.place)
        (R : List (Token Span) → X) (push : A → X → X)
        (pushed : (f g : List (Token Span)) (a : A) → E f a → R (f ++ g) ≡ push a (R g)) where
      abbrev pub Reading : List (Token Span) → List A → Type 0
      Reading f l = (g : List (Token Span)) → R (f ++ g) ≡ pushes push l (R g)

      abbrev Past : ℕ → Type 0
      Past c = (t : Token Span) (g : List (Token Span)) → t.kind ≡ sign c → R (t ∷ g) ≡ R g

      pub tuple_fits : Past 0x2C → Past 0x28 → Past 0x29 → (i : ℕ) (l : List (Token Span)) → At i l → Fits i l Reading length (tuple p row i) (tupled z.place P l)
      unfolding tuple tupled single ◌>>=◌
      tuple_fits comma opens closes i l here =
          opened_fits 0x28 4 names_l_paren Reading length i l here (entries p 5 row (i + 1) 0) (p row i) (listed z.place P 0x29) (single z.place P)
          (λ t r e k at₁.
          weaken_fits Reading (λ f b. Reading (t ∷ f) b) length (i + 1) r (λ f b L g. opens t (f ++ g) k ∙ L g) (entries p 5 row (i + 1) 0) (listed z.place P 0x29 r)
          (entries_fits p steps P E fits stopped 0x29 5 (omega arith) names_r_paren R R push pushed comma closes (i + 1) r at₁))
          (map_fits E once Reading length i l (λ a. a ∷ []) (λ f r a e w g. pushed f g a w) (λ a. refl) (p row i) (P l) (fits i l here))

      pub set_fits : Past 0x2C → Past 0x7B → Past 0x7D → (i : ℕ) (l : List (Token Span)) → At i l → Fits i l Reading length (set p row i) (braced z.place P l)
      unfolding set braced ◌>>=◌
      set_fits comma opens closes i l here =
          bind_fits (One (is_sign 0x7B)) once Reading length i l here (one (is_kind 6) row i) (expect z.place 0x7B l) (sign_fits 0x7B 6 names_l_brace i l here)
          (λ j _. cond (eqb (peek row j).kind 7) (Done (j + 1) 0) (entries p 7 row j 0)) (λ _. opened z.place 0x7D (give []) (listed z.place P 0x7D))
          λ f r a e o at₁.
          let past : (g : List (Token Span)) → R (f ++ g) ≡ R g =
          λ g. ap (λ (x : List (Token Span)). R (x ++ g)) o.front ∙ opens o.taker g (is_sign_lem 0x7B o.taker.kind (ap is_some o.says)) in
          opened_fits 0x7D 7 names_r_brace (λ g b. Reading (f ++ g) b) length (i + length f) r at₁ (Done (i + length f + 1) 0) (entries p 7 row (i + length f) 0) (give []) (listed z.place P 0x7D)
          (λ t r₂ e₂ k at₂. ([], refl, omega arith, refl, λ g. ap R (append_assoc f (t ∷ []) g) ∙ past (t ∷ g) ∙ closes t g k))
          (weaken_fits Reading (λ g b. Reading (f ++ g) b) length (i + length f) r (λ f₂ b L g. ap R (append_assoc f f₂ g) ∙ past (f₂ ++ g) ∙ L g)
          (entries p 7 row (i + length f) 0) (listed z.place P 0x7D r)
          (entries_fits p steps P E fits stopped 0x7D 7 (omega arith) names_r_brace R R push pushed comma closes (i + length f) r at₁))
