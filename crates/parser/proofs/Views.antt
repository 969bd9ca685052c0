-- What the words of a token say is what the views of the language say of the token.
use Rattle.std.proofs.Math.Bool.{and-true, and-false}
use Rattle.diag.specs.declared.Code.TheVariants.{Unexpected, UnterminatedString, NoDirection}
use mathlib.Core.Path.{◌≡◌, refl, sym, ap, subst, ◌∙◌}
use Prim.Native.Nat.{ℕ, ◌+◌, ◌<◌}
use native.Mathlib.Omega.{arith}
use mathlib.Core.Bool.{Bool, true, false, cond, ◌&&◌, not}
use mathlib.Core.List.{List, [], ◌∷◌}
use Rattle.std.specs.Prelude.{Option, None, Some}
use lib.Dec.{eqb}
use lib.ListN.{length}
use borrow.Author.Tests.{eqb-true, eq-eqb, ne_eqb, lt-ltb, le-ltb}
use Rattle.lexer.specs.Tokens.{TokenKind, word, number, quoted, str, sign, comment, newline, unterminated_string, unterminated_quote, Span, Token}
use Rattle.lexer.specs.Words.{sign_number, kind_number, keyword, word_value, token_value}
use Rattle.language.specs.Machine.{Dir, left, right, stay}
use Rattle.language.specs.Parser.{when, unexpected, sign_in, is_sign}
use Rattle.language.specs.Lines.{RawSymbol, glyph, one_character, bare, bracket, state_in, symbol_in, write_in, from_char, direction_in, not_direction, string_in, number_in}
use Rattle.language.proofs.Every.{by_test}
use Rattle.parser.specs.Views.{is_kind, is_state, is_symbol, is_write, is_move, is_direction, is_text}
use Rattle.parser.specs.Lines.{code_of, code_number}
use Rattle.parser.specs.Meaning.{token_of, SoundAs}
use Rattle.tokens.specs.declared.Token.{Token as Words}

abbrev pub is_some : {A : Type 0} → Option A → Bool
is_some None = false
is_some (Some a) = true

some-when : {A : Type 0} (b : Bool) (a : A) → is_some (when b a) ≡ b
some-when true a = refl
some-when false a = refl

-- a sign that the lexer does not name
pub record Unnamed (d : ℕ) : Type 0 where
  pub no_l_paren : eqb d 0x28 ≡ false
  pub no_r_paren : eqb d 0x29 ≡ false
  pub no_l_brace : eqb d 0x7B ≡ false
  pub no_r_brace : eqb d 0x7D ≡ false
  pub no_comma : eqb d 0x2C ≡ false
  pub no_eq : eqb d 0x3D ≡ false
  pub no_star : eqb d 0x2A ≡ false

-- what holds of the named signs, each tested, and of the others, holds of all
pub sign_rule : {X : Type 0} (f g : ℕ → X) → f 0x28 ≡ g 0x28 → f 0x29 ≡ g 0x29 → f 0x7B ≡ g 0x7B → f 0x7D ≡ g 0x7D → f 0x2C ≡ g 0x2C → f 0x3D ≡ g 0x3D → f 0x2A ≡ g 0x2A
    → ((d : ℕ) → Unnamed d → f d ≡ g d) → (d : ℕ) → f d ≡ g d
sign_rule {X} f g p₁ p₂ p₃ p₄ p₅ p₆ p₇ other d =
    is 0x28 p₁ λ n₁. is 0x29 p₂ λ n₂. is 0x7B p₃ λ n₃. is 0x7D p₄ λ n₄. is 0x2C p₅ λ n₅. is 0x3D p₆ λ n₆. is 0x2A p₇ λ n₇.
    other d (record { no_l_paren = n₁; no_r_paren = n₂; no_l_brace = n₃; no_r_brace = n₄; no_comma = n₅; no_eq = n₆; no_star = n₇ })
  where
    is : (c : ℕ) → f c ≡ g c → (eqb d c ≡ false → f d ≡ g d) → f d ≡ g d
    is c e k = by_test (eqb d c) (λ y. subst (λ (x : ℕ). f x ≡ g x) (sym (eqb-true d c y)) e) k

pub unnamed_number : (d : ℕ) → Unnamed d → sign_number d ≡ 11
unfolding sign_number
unnamed_number d u = rw (u.no_l_paren, u.no_r_paren, u.no_l_brace, u.no_r_brace, u.no_comma, u.no_eq, u.no_star)

-- a token with its kind apart
abbrev pub tok : TokenKind → Span → Span → Token Span
tok k p q = record { kind = k; place = p; inner = q }

-- ---- codes
pub code_view : (k : TokenKind) (p q : Span) → code_number (code_of (token_of (tok k p q))) ≡ unexpected k
unfolding code_number code_of token_of unexpected kind_number
code_view (word w) p q = refl
code_view (number w) p q = refl
code_view (quoted c) p q = refl
code_view (str s) p q = refl
code_view (sign c) p q =
    sign_rule (λ d. code_number (cond (eqb (sign_number d) 14) UnterminatedString Unexpected)) (λ d. 1) refl refl refl refl refl refl refl (λ d u. rw (unnamed_number d u)) c
code_view (comment s) p q = refl
code_view newline p q = refl
code_view unterminated_string p q = refl
code_view unterminated_quote p q = refl

-- ---- signs
-- the sign c has the kind of the number n, and no other token has
pub record Names (c n : ℕ) : Type 0 where
  pub alone : (d : ℕ) → eqb (sign_number d) n ≡ eqb d c
  pub others : (eqb 0 n ≡ false) × (eqb 1 n ≡ false) × (eqb 2 n ≡ false) × (eqb 3 n ≡ false) × (eqb 12 n ≡ false) × (eqb 13 n ≡ false) × (eqb 14 n ≡ false) × (eqb 15 n ≡ false)

pub names_l_paren : Names 0x28 4
unfolding sign_number
names_l_paren = record {
  alone = sign_rule (λ d. eqb (sign_number d) 4) (λ d. eqb d 0x28) refl refl refl refl refl refl refl (λ d u. rw (unnamed_number d u, u.no_l_paren));
  others = (refl, refl, refl, refl, refl, refl, refl, refl);
}

pub names_r_paren : Names 0x29 5
unfolding sign_number
names_r_paren = record {
  alone = sign_rule (λ d. eqb (sign_number d) 5) (λ d. eqb d 0x29) refl refl refl refl refl refl refl (λ d u. rw (unnamed_number d u, u.no_r_paren));
  others = (refl, refl, refl, refl, refl, refl, refl, refl);
}

pub names_l_brace : Names 0x7B 6
unfolding sign_number
names_l_brace = record {
  alone = sign_rule (λ d. eqb (sign_number d) 6) (λ d. eqb d 0x7B) refl refl refl refl refl refl refl (λ d u. rw (unnamed_number d u, u.no_l_brace));
  others = (refl, refl, refl, refl, refl, refl, refl, refl);
}

pub names_r_brace : Names 0x7D 7
unfolding sign_number
names_r_brace = record {
  alone = sign_rule (λ d. eqb (sign_number d) 7) (λ d. eqb d 0x7D) refl refl refl refl refl refl refl (λ d u. rw (unnamed_number d u, u.no_r_brace));
  others = (refl, refl, refl, refl, refl, refl, refl, refl);
}

pub names-comma : Names 0x2C 8
unfolding sign_number
names-comma = record {
  alone = sign_rule (λ d. eqb (sign_number d) 8) (λ d. eqb d 0x2C) refl refl refl refl refl refl refl (λ d u. rw (unnamed_number d u, u.no_comma));
  others = (refl, refl, refl, refl, refl, refl, refl, refl);
}

pub names-eq : Names 0x3D 9
unfolding sign_number
names-eq = record {
  alone = sign_rule (λ d. eqb (sign_number d) 9) (λ d. eqb d 0x3D) refl refl refl refl refl refl refl (λ d u. rw (unnamed_number d u, u.no_eq));
  others = (refl, refl, refl, refl, refl, refl, refl, refl);
}

pub names_star : Names 0x2A 10
unfolding sign_number
names_star = record {
  alone = sign_rule (λ d. eqb (sign_number d) 10) (λ d. eqb d 0x2A) refl refl refl refl refl refl refl (λ d u. rw (unnamed_number d u, u.no_star));
  others = (refl, refl, refl, refl, refl, refl, refl, refl);
}

-- a test of a token's words that says whether a view takes the token
abbrev pub Sees : {A : Type 0} → (Words → Bool) → (TokenKind → Option A) → Type 0
Sees f view = (k : TokenKind) (p q : Span) → SoundAs k p → f (token_of (tok k p q)) ≡ is_some (view k)

pub sees_sign : (c n : ℕ) → Names c n → Sees (is_kind n) (is_sign c)
unfolding is_kind token_of kind_number is_sign sign_in
sees_sign c n m (word w) p q s = m.others.0
sees_sign c n m (number w) p q s = m.others.1
sees_sign c n m (quoted d) p q s = m.others.2
sees_sign c n m (str t) p q s = m.others.3
sees_sign c n m (sign d) p q s = m.alone d ∙ sym (some-when (eqb d c) true)
sees_sign c n m (comment t) p q s = m.others.4
sees_sign c n m newline p q s = m.others.5
sees_sign c n m unterminated_string p q s = m.others.6
sees_sign c n m unterminated_quote p q s = m.others.7

-- ---- strings and numbers
pub sees_string : Sees (is_kind 3) string_in
unfolding is_kind token_of kind_number string_in
sees_string (word w) p q s = refl
sees_string (number w) p q s = refl
sees_string (quoted d) p q s = refl
sees_string (str t) p q s = refl
sees_string (sign d) p q s = sign_rule (λ d. eqb (sign_number d) 3) (λ d. false) refl refl refl refl refl refl refl (λ d u. rw (unnamed_number d u)) d
sees_string (comment t) p q s = refl
sees_string newline p q s = refl
sees_string unterminated_string p q s = refl
sees_string unterminated_quote p q s = refl

pub sees_number : Sees (is_kind 1) number_in
unfolding is_kind token_of kind_number number_in
sees_number (word w) p q s = refl
sees_number (number w) p q s = refl
sees_number (quoted d) p q s = refl
sees_number (str t) p q s = refl
sees_number (sign d) p q s = sign_rule (λ d. eqb (sign_number d) 1) (λ d. false) refl refl refl refl refl refl refl (λ d u. rw (unnamed_number d u)) d
sees_number (comment t) p q s = refl
sees_number newline p q s = refl
sees_number unterminated_string p q s = refl
sees_number unterminated_quote p q s = refl

-- ---- states
-- a word of several characters has a value above all code points
above : (c d : ℕ) (w : List ℕ) (n : ℕ) → n < 0x110000 → eqb (word_value (c ∷ d ∷ w)) n ≡ false
unfolding word_value
above c d w n h = ne_eqb (0x110000 + keyword (c ∷ d ∷ w)) n (λ e. omega arith)

pub sees_state : Sees is_state state_in
unfolding is_state token_of kind_number token_value state_in word_value
sees_state (word []) p q s = refl
sees_state (word (c ∷ [])) p q s = sym (some-when (not (eqb c 0x5F && true)) (c ∷ []) ∙ ap not (and-true (eqb c 0x5F)))
sees_state (word (c ∷ d ∷ w)) p q s =
    ap not (above c d w 0x5F (omega arith)) ∙ sym (some-when (not (eqb c 0x5F && false)) (c ∷ d ∷ w) ∙ ap not (and-false (eqb c 0x5F)))
sees_state (number w) p q s = refl
sees_state (quoted d) p q s = refl
sees_state (str t) p q s = refl
sees_state (sign d) p q s = sign_rule (λ d. cond (eqb (sign_number d) 0) (not (eqb d 0x5F)) false) (λ d. false) refl refl refl refl refl refl refl (λ d u. rw (unnamed_number d u)) d
sees_state (comment t) p q s = refl
sees_state newline p q s = refl
sees_state unterminated_string p q s = refl
sees_state unterminated_quote p q s = refl

-- ---- symbols
-- a number is as long as it has digits
one_digit : {A : Type 0} (f : ℕ → A) (w : List ℕ) (p : Span) → p.end ≡ p.start + length w → eqb (p.start + 1) p.end ≡ is_some (one_character f w)
unfolding one_character
one_digit f [] p e = ne_eqb (p.start + 1) p.end (λ h. omega arith)
one_digit f (c ∷ []) p e = eq-eqb (p.start + 1) p.end (omega arith)
one_digit f (c ∷ d ∷ w) p e = ne_eqb (p.start + 1) p.end (λ h. omega arith)

pub sees_symbol : Sees is_symbol symbol_in
unfolding is_symbol token_of kind_number token_value symbol_in word_value one_character bracket SoundAs
sees_symbol (word []) p q s = refl
sees_symbol (word (c ∷ [])) p q s = lt-ltb c 0x110000 s
sees_symbol (word (c ∷ d ∷ w)) p q s = le-ltb (0x110000 + keyword (c ∷ d ∷ w)) 0x110000 (omega arith)
sees_symbol (number w) p q s = one_digit (λ c. glyph c) w p s
sees_symbol (quoted d) p q s = refl
sees_symbol (str t) p q s = refl
sees_symbol (sign d) p q s =
    sign_rule
    (λ d. is_symbol (token_of (tok (sign d) p q)))
    (λ d. is_some (symbol_in (sign d)))
    refl refl refl refl refl refl refl
    (λ d u. rw (unnamed_number d u, u.no_l_paren, u.no_r_paren, u.no_l_brace, u.no_r_brace, u.no_comma, u.no_eq, u.no_star) (sym (some-when (not (eqb d 0x3B)) (bare 0x2423 d)))) d
sees_symbol (comment t) p q s = refl
sees_symbol newline p q s = refl
sees_symbol unterminated_string p q s = refl
sees_symbol unterminated_quote p q s = refl

pub sees_write : Sees is_write write_in
unfolding is_write is_kind write_in
sees_write k p q s =
    ap (λ (b : Bool). cond b true (is_symbol (token_of (tok k p q)))) (sees_sign 0x2A 10 names_star k p q s) ∙
    ap (λ (b : Bool). cond (is_some (is_sign 0x2A k)) true b) (sees_symbol k p q s) ∙ go (is_sign 0x2A k) (symbol_in k)
  where
    go : (a : Option Bool) (b : Option RawSymbol) → cond (is_some a) true (is_some b) ≡ is_some {A = Option RawSymbol} (elim a [ Some b ↦ Some None | None ↦ elim b [ Some s ↦ Some (Some s) | None ↦ None ] ])
    go (Some b) o = refl
    go None (Some s) = refl
    go None None = refl

-- ---- directions
from_char_lem : (c : ℕ) → is_move c ≡ is_some (from_char c)
unfolding is_move from_char
from_char_lem c = go (eqb c 0x4C) (eqb c 0x52) (eqb c 0x4E)
  where
    go : (a b d : Bool) → cond a true (cond b true d) ≡ is_some {A = Dir} (elim a [ true ↦ Some left | false ↦ elim b [ true ↦ Some right | false ↦ when d stay ] ])
    go true b d = refl
    go false true d = refl
    go false false d = sym (some-when d stay)

no_move : (c d : ℕ) (w : List ℕ) → is_move (word_value (c ∷ d ∷ w)) ≡ false
unfolding is_move
no_move c d w = rw (above c d w 0x4C (omega arith), above c d w 0x52 (omega arith)) (above c d w 0x4E (omega arith))

pub sees_direction : Sees is_direction direction_in
unfolding is_direction token_of kind_number token_value direction_in word_value
sees_direction (word []) p q s = refl
sees_direction (word (c ∷ [])) p q s = from_char_lem c
sees_direction (word (c ∷ d ∷ w)) p q s = no_move c d w
sees_direction (number w) p q s = refl
sees_direction (quoted d) p q s = from_char_lem d
sees_direction (str t) p q s = refl
sees_direction (sign d) p q s =
    sign_rule (λ d. is_direction (token_of (tok (sign d) p q))) (λ d. false) refl refl refl refl refl refl refl (λ d u. rw (unnamed_number d u)) d
sees_direction (comment t) p q s = refl
sees_direction newline p q s = refl
sees_direction unterminated_string p q s = refl
sees_direction unterminated_quote p q s = refl

-- E008 for what may look like a direction, else as for any token
pub text_view : (k : TokenKind) (p q : Span) → code_number (cond (is_text (token_of (tok k p q))) NoDirection (code_of (token_of (tok k p q)))) ≡ not_direction k
unfolding is_text code_number code_of token_of kind_number not_direction bracket
text_view (word w) p q = refl
text_view (number w) p q = refl
text_view (quoted c) p q = refl
text_view (str s) p q = refl
text_view (sign c) p q =
    sign_rule
    (λ d. code_number (cond (is_text (token_of (tok (sign d) p q))) NoDirection (code_of (token_of (tok (sign d) p q)))))
    (λ d. not_direction (sign d))
    refl refl refl refl refl refl refl
    (λ d u.
    let b : bracket d ≡ false = rw (u.no_l_paren, u.no_r_paren, u.no_l_brace, u.no_r_brace, u.no_comma, u.no_eq) in
    rw (unnamed_number d u) (sym (ap (λ (x : Bool). elim x [ true ↦ 1 | false ↦ 8 ]) b))) c
text_view (comment s) p q = refl
text_view newline p q = refl
text_view unterminated_string p q = refl
text_view unterminated_quote p q = refl
