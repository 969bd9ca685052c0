-- What the lexer gives is well formed, and its characters are the text's: so each token could stand in a plain form.
use Prim.Native.Nat.{ℕ, zero, suc}
use mathlib.Core.Bool.{Bool, true, false, not}
use mathlib.Core.List.{List, [], ◌∷◌}
use Rattle.std.specs.Prelude.{Option, None, Some}
use mathlib.Core.Path.{◌≡◌, refl, ap, subst}
use borrow.Author.Tests.{eqb-true}
use lib.Dec.{eqb}
use Rattle.chars.specs.Ranges.{within}
use Rattle.chars.specs.Class.{admitted, class_of}
use Rattle.chars.specs.declared.Class.{Class}
use Rattle.chars.specs.declared.Class.TheVariants.{Letter, Digit, Space, Sign, Other}
use Rattle.lexer.specs.Tokens.{TokenKind, word, number, quoted, str, sign, comment, newline, unterminated_string, unterminated_quote, Step, gap, tok, is_letter, is_digit, is_word_continue, is_ascii_digit, is_whitespace, run, line, trim_cons, trim_end, comment_text, escape, Inner, ends, breaks, escapes, stands, inner_of, Inside, closed, unclosed, put, pass, inside, word_step, number_step, string_step, quoted_step, slash_step, other_step, step}
use Rattle.lexer.specs.Starts.{is_word_start}
use Rattle.language.proofs.Every.{by_test, or_left, or_right, Every, All, Maybe}
use Rattle.language.proofs.TokenKinds.{kinds, kinds_from, emit_kind}
use Rattle.language.proofs.PlainLex.{IsWord, IsSymbol, IsComment}
use Rattle.language.proofs.Decimal.{IsNumber}

-- a character of the set that a text may have
unfoldable pub fine : ℕ → Bool
unfolding within
fine c = within admitted c

abbrev pub Fine : ℕ → Type 0
Fine c = fine c ≡ true

abbrev pub AllFine : List ℕ → Type 0
AllFine l = All fine l

-- what holds of each token that is read: it has the lexer's form, and its characters are of the set
abbrev pub GoodKind : TokenKind → Type 0
GoodKind (word w) = IsWord w × AllFine w
GoodKind (number w) = IsNumber w × AllFine w
GoodKind (quoted c) = IsSymbol c × Fine c
GoodKind (str s) = AllFine s
GoodKind (sign c) = IsSymbol c × Fine c
GoodKind (comment s) = IsComment s × AllFine s
GoodKind newline = Unit {0}
GoodKind unterminated_string = Unit {0}
GoodKind unterminated_quote = Unit {0}

abbrev GoodStep : Step → Type 0
GoodStep gap = Unit {0}
GoodStep (tok t w a b n) = GoodKind t

-- ---- runs, lines and trimming

run_passes : (ok : ℕ → Bool) (l : List ℕ) → All ok (run ok l)
unfolding run
run_passes ok [] = tt
run_passes ok (c ∷ r) = by_test (ok c) (λ e. rw (e, run) (e, run_passes ok r)) (λ e. rw (e, run) tt)

run_keeps : (p ok : ℕ → Bool) (l : List ℕ) → All p l → All p (run ok l)
unfolding run
run_keeps p ok [] h = tt
run_keeps p ok (c ∷ r) h = by_test (ok c) (λ e. rw (e, run) (h.0, run_keeps p ok r h.1)) (λ e. rw (e, run) tt)

line_passes : (l : List ℕ) → All (λ c. not (eqb c 10)) (line l)
unfolding line
line_passes [] = tt
line_passes (c ∷ r) = by_test (eqb c 10) (λ e. rw (e, line) tt) (λ e. rw (e, line) (ap not e, line_passes r))

line_keeps : (p : ℕ → Bool) (l : List ℕ) → All p l → All p (line l)
unfolding line
line_keeps p [] h = tt
line_keeps p (c ∷ r) h = by_test (eqb c 10) (λ e. rw (e, line) tt) (λ e. rw (e, line) (h.0, line_keeps p r h.1))

trim_cons_keeps : (p : ℕ → Bool) (c : ℕ) (l : List ℕ) → p c ≡ true → All p l → All p (trim_cons c l)
unfolding trim_cons
trim_cons_keeps p c [] e h = by_test (is_whitespace c) (λ t. rw (t, trim_cons) tt) (λ t. rw (t, trim_cons) (e, tt))
trim_cons_keeps p c (d ∷ r) e h = (e, h)

trim_keeps : (p : ℕ → Bool) (l : List ℕ) → All p l → All p (trim_end l)
unfolding trim_end
trim_keeps p [] h = tt
trim_keeps p (c ∷ r) h = trim_cons_keeps p c (trim_end r) h.0 (trim_keeps p r h.1)

trim_cons_trim : (c : ℕ) (t : List ℕ) → trim_end t ≡ t → trim_end (trim_cons c t) ≡ trim_cons c t
unfolding trim_end
trim_cons_trim c [] h = by_test (is_whitespace c) (λ e. rw (e, trim_cons)) (λ e. rw (e, trim_cons) (rw (e, trim_cons)))
trim_cons_trim c (d ∷ s) h = ap (trim_cons c) h

trim_trim : (l : List ℕ) → trim_end (trim_end l) ≡ trim_end l
unfolding trim_end
trim_trim [] = refl
trim_trim (c ∷ r) = trim_cons_trim c (trim_end r) (trim_trim r)

-- ---- comments

tail_trimmed : (s t : List ℕ) → trim_cons 0x20 t ≡ 0x20 ∷ s → t ≡ s
unfolding trim_cons
tail_trimmed s [] e = cc
tail_trimmed s (d ∷ t) e = cc

text_comment : (s : List ℕ) → IsComment s → IsComment (comment_text s)
unfolding comment_text trim_end
text_comment [] h = h
text_comment (c ∷ s) h = by_test (eqb c 0x20)
    (λ e. rw (e, comment_text) (record { one_line = h.one_line.1; trimmed = tail_trimmed s (trim_end s) (subst (λ c. trim_cons c (trim_end s) ≡ c ∷ s) (eqb-true c 0x20 e) h.trimmed) }))
    (λ e. rw (e, comment_text) h)

text_keeps : (p : ℕ → Bool) (s : List ℕ) → All p s → All p (comment_text s)
unfolding comment_text
text_keeps p [] h = tt
text_keeps p (c ∷ s) h = by_test (eqb c 0x20) (λ e. rw (e, comment_text) h.1) (λ e. rw (e, comment_text) h)

slash_good : (r : List ℕ) → AllFine r → GoodStep (slash_step r)
unfolding slash_step fine
slash_good [] h = (refl, refl)
slash_good (d ∷ r) h = by_test (eqb d 0x2F)
    (λ e. rw (e, slash_step) (
      text_comment (trim_end (line r)) (record { one_line = trim_keeps (λ c. not (eqb c 10)) (line r) (line_passes r); trimmed = trim_trim (line r) }),
      text_keeps fine (trim_end (line r)) (trim_keeps fine (line r) (line_keeps fine r h.1)),
    ))
    (λ e. rw (e, slash_step) (refl, refl))

-- ---- strings

abbrev GoodInside : Inside → Type 0
GoodInside (closed v k) = AllFine v
GoodInside unclosed = Unit {0}

put_good : (c : ℕ) (i : Inside) → Fine c → GoodInside i → GoodInside (put c i)
unfolding put
put_good c (closed v k) e h = (e, h)
put_good c unclosed e h = tt

pass_good : (i : Inside) → GoodInside i → GoodInside (pass i)
unfolding pass
pass_good (closed v k) h = h
pass_good unclosed h = tt

escape_good : (e : ℕ) → Maybe Fine (escape e)
unfolding escape fine
escape_good e = by_test (eqb e 0x22) (λ t. rw (t, escape) refl) (λ t. rw (t, escape)
    (by_test (eqb e 0x5C) (λ t. rw t refl) (λ t. rw t (by_test (eqb e 0x6E) (λ t. rw t refl) (λ t. rw t (by_test (eqb e 0x74) (λ t. rw t refl) (λ t. rw t tt)))))))

char_good : (k : Inner) (c : ℕ) (r : List ℕ) → inner_of c ≡ k → Fine c → GoodInside (inside true r) → GoodInside (inside false r) → GoodInside (inside false (c ∷ r))
unfolding inside
char_good ends c r e f g h = rw (e, inside) tt
char_good breaks c r e f g h = rw (e, inside) tt
char_good escapes c r e f g h = rw (e, inside) (pass_good (inside true r) g)
char_good stands c r e f g h = rw (e, inside) (put_good c (pass (inside false r)) f (pass_good (inside false r) h))

escaped_good : (o : Option ℕ) (c : ℕ) (r : List ℕ) → escape c ≡ o → Maybe Fine o → Fine c → GoodInside (inside false r) → GoodInside (inside true (c ∷ r))
unfolding inside fine
escaped_good (Some v) c r e m f h = rw (e, inside) (put_good v (pass (inside false r)) m (pass_good (inside false r) h))
escaped_good None c r e m f h = rw (e, inside) (by_test (eqb c 10)
    (λ t. rw t tt)
    (λ t. rw t (put_good 0x5C (put c (pass (inside false r))) refl (put_good c (pass (inside false r)) f (pass_good (inside false r) h)))))

inside_good : (b : Bool) (l : List ℕ) → AllFine l → GoodInside (inside b l)
unfolding inside
inside_good true [] h = tt
inside_good false [] h = tt
inside_good false (c ∷ r) h = char_good (inner_of c) c r refl h.0 (inside_good true r h.1) (inside_good false r h.1)
inside_good true (c ∷ r) h = escaped_good (escape c) c r refl (escape_good c) h.0 (inside_good false r h.1)

string_good : (r : List ℕ) → AllFine r → GoodStep (string_step r)
unfolding string_step
string_good r h = go (inside false r) refl (inside_good false r h)
  where
    go : (i : Inside) → inside false r ≡ i → GoodInside i → GoodStep (string_step r)
    go (closed v n) e g = rw (e, string_step) g
    go unclosed e g = rw (e, string_step) tt

-- ---- the other tokens

quoted_good : (r : List ℕ) → AllFine r → GoodStep (quoted_step r)
unfolding quoted_step
quoted_good [] h = tt
quoted_good (x ∷ []) h = tt
quoted_good (x ∷ q ∷ r) h = by_test (eqb x 10) (λ e. rw (e, quoted_step) tt) (λ e. rw (e, quoted_step) (by_test (eqb q 0x27) (λ t. rw t (e, h.0)) (λ t. rw t tt)))

word_good : (c : ℕ) (r : List ℕ) → is_word_start c ≡ true → Fine c → AllFine r → GoodStep (word_step c r)
unfolding word_step
word_good c r e f h = ((e, run_passes is_word_continue r), (f, run_keeps fine is_word_continue r h))

other_good : (c : ℕ) (r : List ℕ) → eqb c 10 ≡ false → Fine c → AllFine r → GoodStep (other_step c r)
unfolding other_step is_word_start
other_good c r n f h = by_test (eqb c 0x5F)
    (λ t. rw (t, other_step) (word_good c r (or_right (is_letter (class_of c)) (eqb c 0x5F) t) f h))
    (λ t. rw (t, other_step) (by_test (eqb c 0x22) (λ t. rw t (string_good r h)) (λ t. rw t (by_test (eqb c 0x27)
    (λ t. rw t (quoted_good r h))
    (λ t. rw t (by_test (eqb c 0x2F) (λ t. rw t (slash_good r h)) (λ t. rw t (n, f))))))))

step_good : (c : ℕ) (r : List ℕ) → Fine c → AllFine r → GoodStep (step c r)
unfolding step number_step is_word_start is_ascii_digit
step_good c r f h = by_test (eqb c 10) (λ e. rw (e, step) tt) (λ n. go n (class_of c) refl)
  where
    go : eqb c 10 ≡ false → (k : Class) → class_of c ≡ k → GoodStep (step c r)
    go n Letter e = rw (n, step) (rw e (word_good c r (or_left (is_letter (class_of c)) (eqb c 0x5F) (ap is_letter e)) f h))
    go n Digit e = rw (n, step) (rw e ((ap is_digit e, run_passes is_ascii_digit r), (f, run_keeps fine is_ascii_digit r h)))
    go n Space e = rw (n, step) (rw e tt)
    go n Sign e = rw (n, step) (rw e (n, f))
    go n Other e = rw (n, step) (rw e (other_good c r n f h))

emit_good : (s : Step) (next : ℕ → List TokenKind) → GoodStep s → ((n : ℕ) → Every GoodKind (next n)) → Every GoodKind (emit_kind s next)
unfolding emit_kind
emit_good gap next h k = k 0
emit_good (tok t w a b n) next h k = (h, k n)

from_good : (k : ℕ) (l : List ℕ) → AllFine l → Every GoodKind (kinds_from k l)
unfolding kinds_from
from_good k [] h = (tt, tt)
from_good (suc k) (c ∷ r) h = from_good k r h.1
from_good zero (c ∷ r) h = emit_good (step c r) _ (step_good c r h.0 h.1) (λ n. from_good n r h.1)

-- every token of a text of admitted characters
pub kinds_good : (l : List ℕ) → AllFine l → Every GoodKind (kinds l)
unfolding kinds
kinds_good l h = from_good 0 l h
