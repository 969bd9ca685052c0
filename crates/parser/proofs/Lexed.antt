-- The tokens of every text are what the lines ask for: a line feed ends them and follows each comment, words are code
-- points, numbers as long as their digits.
use mathlib.Core.Path.{◌≡◌, refl, sym, ap, subst, ◌∙◌}
use Prim.Native.Nat.{ℕ, zero, suc, ◌+◌, ◌-◌, ◌≤◌, ◌<◌}
use native.Mathlib.Omega.{arith}
use mathlib.Core.Bool.{Bool, true, false, not, ◌&&◌}
use mathlib.Core.List.{List, [], ◌∷◌}
use lib.Dec.{eqb}
use lib.ListN.{length, take, drop}
use borrow.Author.Tests.{eq-eqb, eqb-true, eqb-false}
use Rattle.chars.specs.Utf8.{size, sizes, decode}
use Rattle.chars.specs.Class.{class_of}
use Rattle.chars.specs.declared.Class.{Class}
use Rattle.chars.specs.declared.Class.TheVariants.{Letter, Digit, Space, Sign, Other}
use Rattle.lexer.specs.Tokens.{TokenKind, word, number, quoted, str, sign, comment, newline, unterminated_string, unterminated_quote, Span, Token, Step, gap, tok, Inside, closed, unclosed, line, inside, trim_end, word_step, number_step, string_step, quoted_step, comment_step, slash_step, other_step, step, emit, tokens_from, tokens}
use Rattle.lexer.proofs.Pieces.{by_class, step_class}
use Rattle.lexer.proofs.Placed.{Placed, All, placed}
use Rattle.tokens.proofs.Views.{digits-sizes, first_below, word-scalars, number_digits, token_width}
use Rattle.language.specs.Lines.{line_feed, goes_by, remark, ending_of}
use Rattle.language.proofs.Every.{by_test}
use Rattle.lexer.specs.Words.{flat, onto}
use Rattle.parser.specs.Row.{tokens_in}
use Rattle.parser.specs.Meaning.{SoundAs, Closed, AllLexed, LineAt}
use Rattle.parser.proofs.Lines.{line-rule}

feed_step : (c : ℕ) (r : List ℕ) → eqb c 10 ≡ true → step c r ≡ tok newline 1 0 0 0
unfolding step
feed_step c r e = rw (e, step)

-- a line's end: the text's, or a line feed
abbrev AtEnd : List ℕ → Type 0
AtEnd [] = Unit {0}
AtEnd (c ∷ r) = c ≡ 10

line_ends : (r : List ℕ) → AtEnd (drop (length (line r)) r)
unfolding line
line_ends [] = tt
line_ends (c ∷ r) =
    by_test (eqb c 10)
    (λ y. subst (λ (b : Bool). AtEnd (drop (length {A = ℕ} (elim b [ true ↦ [] | false ↦ c ∷ line r ])) (c ∷ r))) (sym y) (eqb-true c 10 y))
    (λ n. subst (λ (b : Bool). AtEnd (drop (length {A = ℕ} (elim b [ true ↦ [] | false ↦ c ∷ line r ])) (c ∷ r))) (sym n) (line_ends r))

-- a comment goes to the line's end; r are the characters behind the first of a step
abbrev ToEnd : TokenKind → ℕ → List ℕ → Type 0
ToEnd (comment s) n r = AtEnd (drop n r)
ToEnd (word w) n r = Unit {0}
ToEnd (number w) n r = Unit {0}
ToEnd (quoted c) n r = Unit {0}
ToEnd (str s) n r = Unit {0}
ToEnd (sign c) n r = Unit {0}
ToEnd newline n r = Unit {0}
ToEnd unterminated_string n r = Unit {0}
ToEnd unterminated_quote n r = Unit {0}

abbrev Ends : List ℕ → Step → Type 0
Ends r gap = Unit {0}
Ends r (tok t w a b n) = ToEnd t n r

slash_ends : (r : List ℕ) → Ends r (slash_step r)
unfolding slash_step comment_step
slash_ends [] = tt
slash_ends (d ∷ r) = elim (eqb d 0x2F) as (λ (b : Bool). Ends (d ∷ r) (elim b [ true ↦ comment_step r | false ↦ tok (sign 0x2F) 1 0 0 0 ])) [ true ↦ line_ends r | false ↦ tt ]

string_ends : (r : List ℕ) → Ends r (string_step r)
unfolding string_step
string_ends r =
    elim (inside false r) as
    (λ (x : Inside). Ends r (elim x [ closed v n ↦ tok (str v) (1 + sizes (take n r)) 1 1 n | unclosed ↦ let l = line r in tok unterminated_string (1 + sizes (trim_end l)) 0 0 (length l) ]))
    [ closed v n ↦ tt | unclosed ↦ tt ]

quoted_ends : (r : List ℕ) → Ends r (quoted_step r)
unfolding quoted_step
quoted_ends [] = tt
quoted_ends (x ∷ []) = tt
quoted_ends (x ∷ q ∷ r) =
    elim (not (eqb x 10) && eqb q 0x27) as
    (λ (b : Bool). Ends (x ∷ q ∷ r) (elim b [ true ↦ tok (quoted x) (2 + size x) 0 0 2 | false ↦ tok unterminated_quote 1 0 0 0 ]))
    [ true ↦ tt | false ↦ tt ]

other_ends : (c : ℕ) (r : List ℕ) → Ends r (other_step c r)
unfolding other_step word_step
other_ends c r =
    by_test (eqb c 0x5F) (λ e. subst (Ends r) (sym (first true e)) tt) λ e₁.
    by_test (eqb c 0x22) (λ e. subst (Ends r) (sym (first false e₁ ∙ second true e)) (string_ends r)) λ e₂.
    by_test (eqb c 0x27) (λ e. subst (Ends r) (sym (first false e₁ ∙ second false e₂ ∙ third true e)) (quoted_ends r)) λ e₃.
    by_test (eqb c 0x2F)
    (λ e. subst (Ends r) (sym (first false e₁ ∙ second false e₂ ∙ third false e₃ ∙ fourth true e)) (slash_ends r))
    (λ e. subst (Ends r) (sym (first false e₁ ∙ second false e₂ ∙ third false e₃ ∙ fourth false e)) tt)
  where
    last : Bool → Step
    last b = elim b [ true ↦ slash_step r | false ↦ tok (sign c) (size c) 0 0 0 ]

    quote : Bool → Step
    quote b = elim b [ true ↦ quoted_step r | false ↦ last (eqb c 0x2F) ]

    double : Bool → Step
    double b = elim b [ true ↦ string_step r | false ↦ quote (eqb c 0x27) ]

    start : Bool → Step
    start b = elim b [ true ↦ word_step c r | false ↦ double (eqb c 0x22) ]

    first : (b : Bool) → eqb c 0x5F ≡ b → other_step c r ≡ start b
    first b e = ap start e

    second : (b : Bool) → eqb c 0x22 ≡ b → double (eqb c 0x22) ≡ double b
    second b e = ap double e

    third : (b : Bool) → eqb c 0x27 ≡ b → quote (eqb c 0x27) ≡ quote b
    third b e = ap quote e

    fourth : (b : Bool) → eqb c 0x2F ≡ b → last (eqb c 0x2F) ≡ last b
    fourth b e = ap last e

class_ends : (k : Class) (c : ℕ) (r : List ℕ) → Ends r (by_class k c r)
unfolding word_step number_step
class_ends Letter c r = tt
class_ends Digit c r = tt
class_ends Space c r = tt
class_ends Sign c r = tt
class_ends Other c r = other_ends c r

step_ends : (c : ℕ) (r : List ℕ) → Ends r (step c r)
unfolding step
step_ends c r =
    by_test (eqb c 10)
    (λ e. subst (Ends r) (sym (feed_step c r e)) tt)
    (λ e. subst (Ends r) (sym (step_class c r (eqb-false c 10 e) (class_of c) refl)) (class_ends (class_of c) c r))

-- behind the characters of a step up to a line's end stands a line feed
abbrev Feeds : List (Token Span) → Type 0
Feeds [] = ⊥
Feeds (t ∷ ts) = ending_of t.kind ≡ line_feed

feeds : (r : List ℕ) (n o : ℕ) → AtEnd (drop n r) → Feeds (tokens_from n o r)
unfolding tokens_from ending_of emit
feeds [] n o h = refl
feeds (c ∷ r) (suc n) o h = feeds r n (o + size c) h
feeds (c ∷ r) zero o h = subst (λ (s : Step). Feeds (emit o s (λ n. tokens_from n (o + size c) r))) (sym (feed_step c r (eq-eqb c 10 h))) refl

-- there is always a token
filled : (r : List ℕ) (n o : ℕ) → 1 ≤ length (tokens_from n o r)
unfolding tokens_from emit
filled [] n o = omega arith
filled (c ∷ r) (suc n) o = filled r n (o + size c)
filled (c ∷ r) zero o = go (step c r) (filled r 0 (o + size c))
  where
    go : (s : Step) → 1 ≤ length (tokens_from 0 (o + size c) r) → 1 ≤ length (emit o s (λ n. tokens_from n (o + size c) r))
    go gap h = h
    go (tok t w a b n) h = omega arith

abbrev AllClosed : List (Token Span) → Type 0
AllClosed [] = Unit {0}
AllClosed (t ∷ ts) = Closed (ending_of t.kind) ts × AllClosed ts

passes_by : (l : List (Token Span)) → 1 ≤ length l → Closed goes_by l
passes_by [] h = absurd (omega arith)
passes_by (t ∷ l) h = tt

remarked : (s : List ℕ) (l : List (Token Span)) → Feeds l → Closed (remark s) l
remarked s [] h = absurd h
remarked s (t ∷ l) h = h

kind_closed : (t : TokenKind) (n o : ℕ) (r : List ℕ) → ToEnd t n r → Closed (ending_of t) (tokens_from n o r)
unfolding ending_of
kind_closed (comment s) n o r e = remarked s (tokens_from n o r) (feeds r n o e)
kind_closed newline n o r e = tt
kind_closed (word w) n o r e = passes_by (tokens_from n o r) (filled r n o)
kind_closed (number w) n o r e = passes_by (tokens_from n o r) (filled r n o)
kind_closed (quoted c) n o r e = passes_by (tokens_from n o r) (filled r n o)
kind_closed (str s) n o r e = passes_by (tokens_from n o r) (filled r n o)
kind_closed (sign c) n o r e = passes_by (tokens_from n o r) (filled r n o)
kind_closed unterminated_string n o r e = passes_by (tokens_from n o r) (filled r n o)
kind_closed unterminated_quote n o r e = passes_by (tokens_from n o r) (filled r n o)

closed_from : (r : List ℕ) (n o : ℕ) → AllClosed (tokens_from n o r)
unfolding tokens_from emit ending_of
closed_from [] n o = (tt, tt)
closed_from (c ∷ r) (suc n) o = closed_from r n (o + size c)
closed_from (c ∷ r) zero o = go (step c r) (step_ends c r) (λ n. closed_from r n (o + size c))
  where
    go : (s : Step) → Ends r s → ((n : ℕ) → AllClosed (tokens_from n (o + size c) r)) → AllClosed (emit o s (λ n. tokens_from n (o + size c) r))
    go gap e h = h 0
    go (tok t w a b n) e h = (kind_closed t n (o + size c) r e, h n)

-- a token in its place is sound
sound_by : (t : List ℕ) (k : TokenKind) (p q : Span) → Placed t (record { kind = k; place = p; inner = q }) → SoundAs k p
unfolding SoundAs
sound_by t (word []) p q h = tt
sound_by t (word (c ∷ [])) p q h = first_below c [] (word-scalars t (c ∷ []) p q h)
sound_by t (word (c ∷ d ∷ w)) p q h = tt
sound_by t (number w) p q h =
    let x : Token Span = record { kind = number w; place = p; inner = q } in
    let n : p.end - p.start ≡ sizes w = ap (λ (s : Span). s.end - s.start) (sym h.shape) ∙ token_width t x h ∙ ap sizes h.says in
    omega (arith, digits-sizes w (number_digits w h.good), h.starts, h.order, h.ends)
sound_by t (quoted c) p q h = tt
sound_by t (str v) p q h = tt
sound_by t (sign c) p q h = tt
sound_by t (comment s) p q h = tt
sound_by t newline p q h = tt
sound_by t unterminated_string p q h = tt
sound_by t unterminated_quote p q h = tt

all_lexed : (t : List ℕ) (l : List (Token Span)) → All (Placed t) l → AllClosed l → AllLexed l
all_lexed t [] p c = tt
all_lexed t (x ∷ l) p c = (record { sound = sound_by t x.kind x.place x.inner p.0; closed = c.0 }, all_lexed t l p.1 c.1)

-- the tokens of a text
pub tokens_lexed : (t : List ℕ) → AllLexed (tokens (decode t))
unfolding tokens
tokens_lexed t = all_lexed t (tokens (decode t)) (placed t) (closed_from (decode t) 0 0)

-- each line of a text, read from the row that the lexer leaves
pub line_of_text : (t w : List ℕ) (i : ℕ) → i < length (tokens (decode t)) → LineAt (tokens (decode t)) (tokens_in (onto (flat (tokens (decode t))) w)) i
unfolding onto
line_of_text t w i h = line-rule (tokens (decode t)) (drop (length (flat (tokens (decode t)))) w) i (tokens_lexed t) h
