-- What the row's tokens say of symbols, writes, directions and comments is what the language's views say of the text's tokens.
use mathlib.Core.Path.{◌≡◌, refl, sym, ap, ◌∙◌}
use mathlib.Core.Bool.{Bool, true, false, cond, not, ◌&&◌, ◌||◌}
use mathlib.Core.List.{List, [], ◌∷◌}
use Rattle.std.specs.Prelude.{Option, None, Some}
use Prim.Native.Nat.{ℕ, ◌+◌, ◌-◌, ◌*◌, ◌<◌, ◌^◌, ◌%◌, min}
use native.Mathlib.Omega.{arith}
use native.Mathlib.Nat.{mod-eq_of_lt}
use lib.Dec.{eqb}
use lib.ListN.{length}
use Rattle.diag.specs.declared.Span.{Span as Place}
use Rattle.lexer.specs.Tokens.{TokenKind, word, number, quoted, str, sign, comment, newline, unterminated_string, unterminated_quote, Token as Lexed}
use Rattle.lexer.specs.Words.{kind_number, token_value, word_value, value, value_from, sign_number}
use Rattle.lexer.specs.Tokens.{is_ascii_digit}
use Rattle.lexer.proofs.Scans.{digit_range}
use Rattle.lexer.proofs.Steps.{Good}
use Rattle.lexer.proofs.Placed.{Placed}
use Rattle.tokens.specs.declared.Token.{Token}
use Rattle.parser.specs.Meaning.{token_of, comment_of, Sound}
use Rattle.parser.proofs.Views.{tok, sign_rule, unnamed_number, is_some, names_star, sees_sign}
use Rattle.parser.specs.Views.{is_kind}
use Rattle.language.specs.Machine.{Dir, left, right, stay}
use Rattle.language.specs.Parser.{is_sign, when}
use Rattle.language.specs.Lines.{RawSymbol, raw_blank, glyph, symbol_in, write_in, direction_in, from_char, bare, bracket, one_character}
use Rattle.language.specs.Assembly as A
use Rattle.language.specs.Layout as L
use Rattle.assembler.specs.Rows.{place_of}
use Rattle.sheet.specs.Comments.{text_words}
use Rattle.sheet.specs.Rules.{resolve, written, move_of}
use Rattle.sheet_theorems.proofs.Shows.{SymbolShows, WriteShows, MoveShows}

-- an option that is some
module _ {X : Type 0} where
  pub some_of : (a b : X) → Some a ≡ Some b → a ≡ b
  some_of a b e = cc

  pub none-some : {Y : Type 0} (b : X) → None ≡ Some b → Y
  none-some b e = absurd (let z : ◌≡◌ {A = ℕ} 0 1 = cc in omega arith)

-- a bare character
bare-code : (b c d : ℕ) → A.resolve b (bare c d) ≡ cond (eqb d c) b d
unfolding bare A.resolve
bare-code b c d = go (eqb d c)
  where
    go : (x : Bool) → A.resolve b (elim x [ true ↦ raw_blank | false ↦ glyph d ]) ≡ cond x b d
    go true = refl
    go false = refl

-- a digit's value
digit_code : (c : ℕ) → is_ascii_digit c ≡ true → (0x30 + min (value (c ∷ [])) 256) % 2 ^ 32 ≡ c
unfolding value value_from
digit_code c h =
    let r = digit_range c h in
    let m : min (0 * 10 + (c - 0x30)) 256 ≡ c - 0x30 = omega arith in
    let e : 0x30 + min (0 * 10 + (c - 0x30)) 256 ≡ c = omega arith in
    ap (λ (n : ℕ). n % 2 ^ 32) e ∙ mod-eq_of_lt (omega arith)

-- ---- symbols
-- what a symbol view says of a sign, by both
module _ (b : ℕ) (p q : Place) where
  abbrev signed : ℕ → Token
  signed d = token_of (tok (sign d) p q)

  abbrev means : Option RawSymbol → Option ℕ
  means None = None
  means (Some s) = Some (A.resolve b s)

  abbrev reads : Option RawSymbol → ℕ → Option ℕ
  reads None n = None
  reads (Some s) n = Some n

  both : (t : Bool) (x : RawSymbol) → means (when t x) ≡ reads (when t x) (A.resolve b x)
  both true x = refl
  both false x = refl

  other-code : (d : ℕ) → sign_number d ≡ 11 → resolve b (signed d) ≡ A.resolve b (bare 0x2423 d)
  unfolding resolve token_of kind_number token_value
  other-code d h = rw h (sym (bare-code b 0x2423 d))

  sign_code : (c : ℕ) → means (symbol_in (sign c)) ≡ reads (symbol_in (sign c)) (resolve b (signed c))
  unfolding symbol_in bracket token_of kind_number token_value
  sign_code =
      sign_rule (λ c. means (symbol_in (sign c))) (λ c. reads (symbol_in (sign c)) (resolve b (signed c))) refl refl refl refl refl refl refl
      (λ d u.
      both (not (bracket d || eqb d 0x2A || eqb d 0x3B)) (bare 0x2423 d) ∙ ap (reads (symbol_in (sign d))) (sym (other-code d (unnamed_number d u))))

pub symbol-code : (k : TokenKind) (p q : Place) (s : RawSymbol) (b : ℕ) → Good k → symbol_in k ≡ Some s → resolve b (token_of (tok k p q)) ≡ A.resolve b s
unfolding symbol_in one_character token_of kind_number token_value word_value resolve A.resolve
symbol-code (word []) p q s b g e = none-some s e
symbol-code (word (c ∷ [])) p q s b g e = sym (bare-code b 0x5F c) ∙ ap (A.resolve b) (some_of (bare 0x5F c) s e)
symbol-code (word (c ∷ d ∷ w)) p q s b g e = none-some s e
symbol-code (number []) p q s b g e = none-some s e
symbol-code (number (c ∷ [])) p q s b g e = digit_code c (and_true (is_ascii_digit c) g) ∙ ap (A.resolve b) (some_of (glyph c) s e)
  where
    and_true : (x : Bool) → x && true ≡ true → x ≡ true
    and_true true h = refl
    and_true false h = h
symbol-code (number (c ∷ d ∷ w)) p q s b g e = none-some s e
symbol-code (quoted c) p q s b g e = ap (A.resolve b) (some_of (glyph c) s e)
symbol-code (sign c) p q s b g e =
    some_of (resolve b (token_of (tok (sign c) p q))) (A.resolve b s)
    (sym (ap (λ (o : Option RawSymbol). reads b p q o (resolve b (token_of (tok (sign c) p q)))) e) ∙ sym (sign_code b p q c) ∙ ap (means b p q) e)
symbol-code (str v) p q s b g e = none-some s e
symbol-code (comment v) p q s b g e = none-some s e
symbol-code newline p q s b g e = none-some s e
symbol-code unterminated_string p q s b g e = none-some s e
symbol-code unterminated_quote p q s b g e = none-some s e

pub place_shown : (t : Lexed Place) → L.place_words (place_of (token_of t)) ≡ L.place_words t.place
unfolding token_of
place_shown t = refl

pub symbol_shown : (t : Lexed Place) (s : RawSymbol) → Good t.kind → symbol_in t.kind ≡ Some s → SymbolShows (token_of t) (record { value = s; place = t.place })
symbol_shown t s g e = record { code = λ b. symbol-code t.kind t.place t.inner s b g e; place = place_shown t }

-- ---- writes
write-code : (t : Lexed Place) (w : Option RawSymbol) → Sound t → Good t.kind → write_in t.kind ≡ Some w → (b : ℕ) (r : Token) (s : RawSymbol) → resolve b r ≡ A.resolve b s
    → written b r (token_of t) ≡ A.written b s w
unfolding written write_in A.written is_kind
write-code t w o g e b r s h = go (is_sign 0x2A t.kind) (symbol_in t.kind) refl refl e
  where
    starred : is_kind 10 (token_of t) ≡ is_some (is_sign 0x2A t.kind)
    starred = sees_sign 0x2A 10 names_star t.kind t.place t.inner o

    by_kind : (x : Bool) → eqb (token_of t).kind 10 ≡ x → written b r (token_of t) ≡ cond x (resolve b r) (resolve b (token_of t))
    by_kind x k = ap (λ (x : Bool). cond x (resolve b r) (resolve b (token_of t))) k

    go : (a : Option Bool) (c : Option RawSymbol) → is_sign 0x2A t.kind ≡ a → symbol_in t.kind ≡ c
        → ◌≡◌ {A = Option (Option RawSymbol)} (elim a [ Some b ↦ Some None | None ↦ elim c [ Some s ↦ Some (Some s) | None ↦ None ] ]) (Some w) → written b r (token_of t) ≡ A.written b s w
    go (Some x) c p q f = by_kind true (starred ∙ ap is_some p) ∙ h ∙ ap (A.written b s) (some_of None w f)
    go None (Some x) p q f =
        by_kind false (starred ∙ ap is_some p) ∙ symbol-code t.kind t.place t.inner x b g q ∙ ap (A.written b s) (some_of (Some x) w f)
    go None None p q f = none-some w f

pub write_shown : (t : Lexed Place) (w : Option RawSymbol) → Sound t → Good t.kind → write_in t.kind ≡ Some w → WriteShows (token_of t) (record { value = w; place = t.place })
write_shown t w o g e = record { code = write-code t w o g e; place = place_shown t }

-- ---- directions
char_move : (c : ℕ) (d : Dir) → from_char c ≡ Some d → cond (eqb c 0x4C) 0 (cond (eqb c 0x52) 1 2) ≡ L.dir_number d
unfolding from_char
char_move c d e = go (eqb c 0x4C) (eqb c 0x52) (eqb c 0x4E) e
  where
    go : (x y z : Bool) → ◌≡◌ {A = Option Dir} (elim x [ true ↦ Some left | false ↦ elim y [ true ↦ Some right | false ↦ when z stay ] ]) (Some d) → cond x 0 (cond y 1 2) ≡ L.dir_number d
    go true y z f = ap L.dir_number (some_of left d f)
    go false true z f = ap L.dir_number (some_of right d f)
    go false false true f = ap L.dir_number (some_of stay d f)
    go false false false f = none-some d f

move_code : (k : TokenKind) (p q : Place) (d : Dir) → direction_in k ≡ Some d → move_of (token_of (tok k p q)) ≡ L.dir_number d
unfolding direction_in move_of token_of token_value word_value
move_code (word []) p q d e = none-some d e
move_code (word (c ∷ [])) p q d e = char_move c d e
move_code (word (c ∷ x ∷ w)) p q d e = none-some d e
move_code (quoted c) p q d e = char_move c d e
move_code (number w) p q d e = none-some d e
move_code (sign c) p q d e = none-some d e
move_code (str v) p q d e = none-some d e
move_code (comment v) p q d e = none-some d e
move_code newline p q d e = none-some d e
move_code unterminated_string p q d e = none-some d e
move_code unterminated_quote p q d e = none-some d e

pub move_shown : (t : Lexed Place) (d : Dir) → direction_in t.kind ≡ Some d → MoveShows (token_of t) (record { value = d; place = t.place })
move_shown t d e = move_code t.kind t.place t.inner d e

-- ---- comments
module _ (text : List ℕ) (short : length text < 2 ^ 32) where
  comment-code : (k : TokenKind) (p q : Place) → Placed text (tok k p q) → eqb (token_of (tok k p q)).kind 12 ≡ true → text_words (token_of (tok k p q)) ≡ q.start ∷ q.end ∷ []
  unfolding token_of kind_number token_value sign_number
  comment-code (comment v) p q m e =
      let s : p.start + (q.start - p.start) ≡ q.start = omega (arith, m.starts) in
      let w : (p.start + (q.start - p.start)) % 2 ^ 32 ≡ q.start = ap (λ (n : ℕ). n % 2 ^ 32) s ∙ mod-eq_of_lt (omega (arith, m.order, m.ends, m.inside)) in
      ap (λ (n : ℕ). n ∷ p.end ∷ []) w ∙ ap (λ (n : ℕ). q.start ∷ n ∷ []) (sym m.shape)
  comment-code (sign c) p q m e =
      absurd (let z : ◌≡◌ {A = Bool} true false = sym e ∙ sign_rule (λ d. eqb (sign_number d) 12) (λ d. false) refl refl refl refl refl refl refl (λ d u. rw (unnamed_number d u)) c in
      let o : ◌≡◌ {A = ℕ} 0 1 = cc in omega arith)
  comment-code (word w) p q m e = absurd (let o : ◌≡◌ {A = ℕ} 0 1 = cc in omega arith)
  comment-code (number w) p q m e = absurd (let o : ◌≡◌ {A = ℕ} 0 1 = cc in omega arith)
  comment-code (quoted c) p q m e = absurd (let o : ◌≡◌ {A = ℕ} 0 1 = cc in omega arith)
  comment-code (str v) p q m e = absurd (let o : ◌≡◌ {A = ℕ} 0 1 = cc in omega arith)
  comment-code newline p q m e = absurd (let o : ◌≡◌ {A = ℕ} 0 1 = cc in omega arith)
  comment-code unterminated_string p q m e = absurd (let o : ◌≡◌ {A = ℕ} 0 1 = cc in omega arith)
  comment-code unterminated_quote p q m e = absurd (let o : ◌≡◌ {A = ℕ} 0 1 = cc in omega arith)

  pub comment_shown : (t : Lexed Place) → Placed text t → eqb (token_of t).kind 12 ≡ true → text_words (token_of t) ≡ L.located_words (comment_of t)
  comment_shown t m e = comment-code t.kind t.place t.inner m e
