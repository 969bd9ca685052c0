-- The tokens of a plain form: each piece gives its tokens, followed by those of what follows it.
use Prim.Native.Nat.{ℕ, zero, suc, ◌+◌}
use mathlib.Core.Bool.{Bool, true, false, not, false≢true}
use mathlib.Core.List.{List, [], ◌∷◌, ◌++◌}
use Rattle.std.specs.Prelude.{Option, None, Some}
use mathlib.Core.Path.{◌≡◌, refl, ap, ap₂, ◌∙◌, sym, subst}
use borrow.Author.Tests.{eqb-true, not-true}
use lib.Dec.{eqb}
use lib.ListN.{length, take, drop}
use lib.Seq.{drop-append_seam}
use Rattle.chars.specs.Utf8.{size, sizes}
use Rattle.chars.specs.Class.{class_of}
use Rattle.chars.specs.declared.Class.{Class}
use Rattle.chars.specs.declared.Class.TheVariants.{Letter, Digit, Space, Sign, Other}
use Rattle.lexer.specs.Tokens as T
use Rattle.lexer.specs.Tokens.{TokenKind, word, quoted, str, sign, newline, tok, is_letter, is_word_continue, run, line, trim_cons, trim_end, comment_text, indent, escape, ends, stands, inner_of, closed, put, pass, inside, word_step, string_step, quoted_step, step}
use Rattle.lexer.specs.Starts.{is_word_start}
use Rattle.language.specs.Machine.{Dir, left, right, stay}
use Rattle.language.specs.Plain.{Piece, say, verbatim, end, commas, symbol, dir_code, direction, escaped, escaped_text, string, comment, own_comment}
use Rattle.language.proofs.Every.{by_test, or_else, Every, All, Maybe}
use Rattle.language.proofs.TokenKinds.{kinds, front}

-- ---- words

-- a word as the lexer takes it
abbrev pub IsWord : List ℕ → Type 0
IsWord [] = ⊥
IsWord (c ∷ w) = (is_word_start c ≡ true) × All is_word_continue w

-- a character that ends a word
abbrev pub Stops : ℕ → Type 0
Stops d = is_word_continue d ≡ false

pub run-all : (ok : ℕ → Bool) (w : List ℕ) (d : ℕ) (r : List ℕ) → All ok w → ok d ≡ false → run ok (w ++ d ∷ r) ≡ w
unfolding run
run-all ok [] d r a e = rw (e, run)
run-all ok (c ∷ w) d r a e = rw (a.0, run) (ap (λ l. c ∷ l) (run-all ok w d r a.1 e))

-- a line feed starts no word
pub start_no_feed : (c : ℕ) → is_word_start c ≡ true → eqb c 10 ≡ false
unfolding is_word_start
start_no_feed c h = by_test (eqb c 10) (λ e. absurd (false≢true (sym (ap is_word_start (eqb-true c 10 e)) ∙ h))) (λ e. e)

underscore : (r : List ℕ) → step 0x5F r ≡ word_step 0x5F r
unfolding step
underscore r = refl

pub start-step : (c : ℕ) (r : List ℕ) → is_word_start c ≡ true → step c r ≡ word_step c r
unfolding step is_word_start
start-step c r h = go (class_of c) refl
  where
    by : (k : Class) → class_of c ≡ k → is_letter k ≡ false → step c r ≡ word_step c r
    by k e f = subst (λ d. step d r ≡ word_step d r) (sym (eqb-true c 0x5F (or_else (is_letter (class_of c)) (eqb c 0x5F) h (ap is_letter e ∙ f)))) (underscore r)

    go : (k : Class) → class_of c ≡ k → step c r ≡ word_step c r
    go Letter e = rw (start_no_feed c h, step) (rw e)
    go Digit e = by Digit e refl
    go Space e = by Space e refl
    go Sign e = by Sign e refl
    go Other e = by Other e refl

word_step_lem : (c : ℕ) (w : List ℕ) (d : ℕ) (r : List ℕ) → IsWord (c ∷ w) → Stops d → step c (w ++ d ∷ r) ≡ tok (word (c ∷ w)) (size c + sizes w) 0 0 (length w)
unfolding word_step
word_step_lem c w d r h e = start-step c (w ++ d ∷ r) h.0 ∙ rw (run-all is_word_continue w d r h.1 e, word_step)

pub word-kinds : (w : List ℕ) → IsWord w → (d : ℕ) (r : List ℕ) → Stops d → kinds (w ++ d ∷ r) ≡ word w ∷ kinds (d ∷ r)
word-kinds [] h d r e = absurd h
word-kinds (c ∷ w) h d r e = front c (w ++ d ∷ r) (word_step_lem c w d r h e) ∙ ap (λ l. word (c ∷ w) ∷ kinds l) (drop-append_seam w (d ∷ r))

-- ---- symbols and directions

-- a symbol can be quoted: any character but line feed
abbrev pub IsSymbol : ℕ → Type 0
IsSymbol c = eqb c 10 ≡ false

pub symbol-kinds : (c : ℕ) → IsSymbol c → (r : List ℕ) → kinds (symbol c r) ≡ quoted c ∷ kinds r
unfolding kinds
symbol-kinds c h r = front 0x27 (c ∷ 0x27 ∷ r) {w = 2 + size c} {a = 0} {b = 0} {n = 2} (rw (h, quoted_step))

abbrev pub dir_kind : Dir → TokenKind
dir_kind d = word (dir_code d ∷ [])

dir_word : (d : Dir) → IsWord (dir_code d ∷ [])
unfolding is_word_start
dir_word left = (refl, tt)
dir_word right = (refl, tt)
dir_word stay = (refl, tt)

-- ---- lists

-- the tokens of members parted by commas, one token a member
unfoldable pub commas_t : {A : Type 0} → (A → TokenKind) → List A → List TokenKind → List TokenKind
commas_t f [] rest = rest
commas_t f (a ∷ []) rest = f a ∷ rest
commas_t f (a ∷ b ∷ bs) rest = f a ∷ sign 0x2C ∷ commas_t f (b ∷ bs) rest

-- the piece of a is the token `f a`, wherever a word would end behind it
pub record Prints {A : Type 0} (good : A → Type 0) (show : A → Piece) (f : A → TokenKind) : Type 0 where
  pub prints : (a : A) → good a → (d : ℕ) (r : List ℕ) → Stops d → kinds (show a (d ∷ r)) ≡ f a ∷ kinds (d ∷ r)

comma-kinds : (r : List ℕ) → kinds (say ", " r) ≡ sign 0x2C ∷ kinds r
unfolding kinds
comma-kinds r = refl

comma-stops : Stops 0x2C
unfolding is_word_continue
comma-stops = refl

pub commas-kinds : {A : Type 0} {good : A → Type 0} {show : A → Piece} {f : A → TokenKind} → Prints good show f
    → (l : List A) → Every good l → (d : ℕ) (r : List ℕ) → Stops d → kinds (commas show l (d ∷ r)) ≡ commas_t f l (kinds (d ∷ r))
unfolding commas commas_t
commas-kinds p [] g d r e = refl
commas-kinds p (a ∷ []) g d r e = p.prints a g.0 d r e
commas-kinds {show = show} {f = f} p (a ∷ b ∷ bs) g d r e =
    p.prints a g.0 0x2C (0x20 ∷ commas show (b ∷ bs) (d ∷ r)) comma-stops
    ∙ ap (λ l. f a ∷ l) (comma-kinds (commas show (b ∷ bs) (d ∷ r)) ∙ ap (λ l. sign 0x2C ∷ l) (commas-kinds p (b ∷ bs) g.1 d r e))

pub name_prints : Prints IsWord verbatim word
name_prints = record { prints = λ w h d r e. word-kinds w h d r e }

pub symbol_prints : Prints IsSymbol symbol quoted
symbol_prints = record { prints = λ c h d r e. symbol-kinds c h (d ∷ r) }

pub dir_prints : Prints (λ d. Unit {0}) direction dir_kind
dir_prints = record { prints = λ a h d r e. word-kinds (dir_code a ∷ []) (dir_word a) d r e }

-- ---- comments

-- a comment's text: on one line, and no white space at its end
pub record IsComment (s : List ℕ) : Type 0 where
  pub one_line : All (λ c. not (eqb c 10)) s
  pub trimmed : trim_end s ≡ s

line-all : (s r : List ℕ) → All (λ c. not (eqb c 10)) s → line (s ++ 10 ∷ r) ≡ s
unfolding line
line-all [] r a = refl
line-all (c ∷ s) r a = rw (not-true (eqb c 10) a.0, line) (ap (λ l. c ∷ l) (line-all s r a.1))

comment_step_lem : (s r : List ℕ) → All (λ c. not (eqb c 10)) s
    → step 0x2F (0x2F ∷ (s ++ 10 ∷ r)) ≡ tok (T.comment (comment_text (trim_end s))) (2 + sizes (trim_end s)) (2 + indent (trim_end s)) 0 (suc (length s))
unfolding step
comment_step_lem s r a = rw (line-all s r a)

comment-front : (s r : List ℕ) → All (λ c. not (eqb c 10)) s → trim_end s ≡ s → kinds (0x2F ∷ 0x2F ∷ (s ++ 10 ∷ r)) ≡ T.comment (comment_text s) ∷ kinds (10 ∷ r)
comment-front s r a e = front 0x2F (0x2F ∷ (s ++ 10 ∷ r)) (comment_step_lem s r a) ∙ ap₂ (λ t l. T.comment (comment_text t) ∷ kinds l) e (drop-append_seam s (10 ∷ r))

pub comment-kinds : (s : List ℕ) → IsComment s → (r : List ℕ) → kinds (comment s (10 ∷ r)) ≡ T.comment s ∷ newline ∷ kinds r
unfolding trim_end comment_text kinds
comment-kinds [] h r = comment-front [] r tt refl
comment-kinds (c ∷ s) h r = comment-front (0x20 ∷ c ∷ s) r (refl, h.one_line) (ap (trim_cons 0x20) h.trimmed)

-- a rule's own comment, or none
abbrev pub own_t : Option (List ℕ) → List TokenKind → List TokenKind
own_t None rest = rest
own_t (Some s) rest = T.comment s ∷ rest

pub own_kinds : (o : Option (List ℕ)) → Maybe IsComment o → (r : List ℕ) → kinds (own_comment o (10 ∷ r)) ≡ own_t o (newline ∷ kinds r)
unfolding kinds
own_kinds None h r = refl
own_kinds (Some s) h r = comment-kinds s h r

-- ---- strings

-- how a character stands in a string, and that it is read so
data Shown (c : ℕ) : Type 0 where
  bare : escaped c ≡ None → inner_of c ≡ stands → Shown c
  behind : (e : ℕ) → escaped c ≡ Some e → escape e ≡ Some c → Shown c

at_literal : (k e : ℕ) → escaped k ≡ Some e → escape e ≡ Some k → (c : ℕ) → eqb c k ≡ true → Shown c
at_literal k e p q c t = subst Shown (sym (eqb-true c k t)) (behind e p q)

shown : (c : ℕ) → Shown c
unfolding escaped inner_of escape
shown c = go (eqb c 0x22) (eqb c 0x5C) (eqb c 10) (eqb c 9) refl refl refl refl
  where
    go : (p q r s : Bool) → eqb c 0x22 ≡ p → eqb c 0x5C ≡ q → eqb c 10 ≡ r → eqb c 9 ≡ s → Shown c
    go true q r s a b d e = at_literal 0x22 0x22 refl refl c a
    go false true r s a b d e = at_literal 0x5C 0x5C refl refl c b
    go false false true s a b d e = at_literal 10 0x6E refl refl c d
    go false false false true a b d e = at_literal 9 0x74 refl refl c e
    go false false false false a b d e = bare (rw (a, escaped) (rw (b, d, e))) (rw (a, inner_of) (rw (d, b)))

-- behind its quote the string is s, and the closing quote is found
abbrev Closes : List ℕ → List ℕ → Type 0
Closes s r = (n : ℕ) × (inside false (escaped_text s (0x22 ∷ r)) ≡ closed s (suc n)) × (drop n (escaped_text s (0x22 ∷ r)) ≡ 0x22 ∷ r)

escape-read : (e c : ℕ) (r : List ℕ) → escape e ≡ Some c → inside true (e ∷ r) ≡ put c (pass (inside false r))
unfolding inside
escape-read e c r q = rw (q, inside)

closes_char : (c : ℕ) (s r : List ℕ) → Shown c → Closes s r → Closes (c ∷ s) r
unfolding escaped_text inside
closes_char c s r (bare p q) h = rw p (suc h.0, rw (q, inside) (ap (λ i. put c (pass i)) h.1), h.2)
closes_char c s r (behind e p q) h = rw p (suc (suc h.0), ap pass (escape-read e c (escaped_text s (0x22 ∷ r)) q ∙ ap (λ i. put c (pass i)) h.1), h.2)

closes : (s r : List ℕ) → Closes s r
unfolding escaped_text inside
closes [] r = (0, refl, refl)
closes (c ∷ s) r = closes_char c s r (shown c) (closes s r)

drop-suc : (n : ℕ) (l : List ℕ) → drop (suc n) l ≡ drop 1 (drop n l)
drop-suc zero l = refl
drop-suc (suc n) [] = refl
drop-suc (suc n) (c ∷ l) = drop-suc n l

pub string-kinds : (s r : List ℕ) → kinds (string s r) ≡ str s ∷ kinds r
unfolding step string
string-kinds s r = go (closes s r)
  where
    go : Closes s r → kinds (string s r) ≡ str s ∷ kinds r
    go h = front 0x22 (escaped_text s (0x22 ∷ r)) {w = 1 + sizes (take (suc h.0) (escaped_text s (0x22 ∷ r)))} {a = 1} {b = 1} {n = suc h.0} (rw (h.1, string_step))
        ∙ ap (λ l. str s ∷ kinds l) (drop-suc h.0 (escaped_text s (0x22 ∷ r)) ∙ ap (drop 1) h.2)
